-- What a table of rows gives: nothing exactly where no row holds, and a row's own K with its number. Assumes nothing.
use mathlib.Core.Path.{◌≡◌, refl, sym}
use mathlib.Core.Bool.{true, false, cond, not}
use mathlib.Core.List.{List, [], ◌∷◌, ◌++◌}
use Prim.Native.Nat.{ℕ, ◌<◌}
use native.Mathlib.Omega.{arith}
use borrow.Author.Tests.{eqb-true, eqb-false, eq-eqb, ne_eqb, not-true}
use lib.Dec.{eqb}
use Rattle.rules.specs.Row.{Verdict}
use Rattle.rules.specs.Refusal.{refusal, refusal_of, absent, proper, FirstIsGiven}
use Rattle.rules.specs.Row.{Row, verdict, verdict_of, refusals, k_at, ExactRows}
use Rattle.rules.proofs.Facts.{either_way, and_left, and_right}
use Rattle.rules.proofs.Exactly.{exactly, Head, head}

-- no row holds
abbrev pub Clear : List Row → Type 0
Clear [] = Unit {0}
Clear (r ∷ rs) = (r.holds ≡ false) × Clear rs

pub none_given : (rs : List Row) → Clear rs → verdict_of rs ≡ verdict 0 0
none_given [] f = refl
none_given (r ∷ rs) f = rw f.0 (none_given rs f.1)

-- no row of two tables one after the other holds where none of either does
pub clear_front : (rs qs : List Row) → Clear (rs ++ qs) → Clear rs
clear_front [] qs f = tt
clear_front (r ∷ rs) qs f = (f.0, clear_front rs qs f.1)

pub clear_back : (rs qs : List Row) → Clear (rs ++ qs) → Clear qs
clear_back [] qs f = f
clear_back (r ∷ rs) qs f = clear_back rs qs f.1

pub clear_both : (rs qs : List Row) → Clear rs → Clear qs → Clear (rs ++ qs)
clear_both [] qs f g = g
clear_both (r ∷ rs) qs f g = (f.0, clear_both rs qs f.1 g)

-- what a proper table says of its first row
top : (r : Row) (rs : List Row) → proper (refusals (r ∷ rs)) ≡ true → Head (refusal r.number r.holds) (refusals rs)
top r rs p = head (refusal r.number r.holds) (refusals rs) p

pub clear : (rs : List Row) → proper (refusals rs) ≡ true → (verdict_of rs).refused ≡ 0 → Clear rs
clear [] p e = tt
clear (r ∷ rs) p e =
    either_way r.holds
    (λ t. absurd (let z : r.number ≡ 0 = rw t at e in omega (arith, (top r rs p).above)))
    (λ f. (f, clear rs (top r rs p).rest (rw f at e)))

-- nothing refused is zeros
pub silent : (rs : List Row) → proper (refusals rs) ≡ true → (verdict_of rs).refused ≡ 0 → verdict_of rs ≡ verdict 0 0
silent rs p e = none_given rs (clear rs p e)

-- a number of an answer that is chosen by whether the verdict refuses
pub chosen : {X : Type 0} (number : X → ℕ) (v : Verdict) (good bad : X) {w : ℕ}
    → (v.refused ≡ 0 → number good ≡ w) → number bad ≡ w → number (cond (eqb v.refused 0) good bad) ≡ w
chosen number v good bad g b = either_way (eqb v.refused 0) (λ t. rw t (g (eqb-true v.refused 0 t))) (λ u. rw u b)

told : (rs : List Row) → (verdict_of rs).refused ≡ refusal_of (refusals rs)
told [] = refl
told (r ∷ rs) = either_way r.holds (λ t. rw t) (λ f. rw f (told rs))

-- a number that no row has is not given
not_given : (rs : List Row) (n : ℕ) → 0 < n → absent n (refusals rs) ≡ true → (verdict_of rs).refused ≡ n → ⊥
not_given [] n h a e = omega arith
not_given (r ∷ rs) n h a e =
    let d = not (eqb n r.number) in
    either_way r.holds
    (λ t. eqb-false n r.number (not-true (eqb n r.number) (and_left d (absent n (refusals rs)) a)) (sym (rw t at e)))
    (λ f. not_given rs n h (and_right d (absent n (refusals rs)) a) (rw f at e))

named : (rs : List Row) → proper (refusals rs) ≡ true → (verdict_of rs).k ≡ k_at rs (verdict_of rs).refused
named [] p = refl
named (r ∷ rs) p =
    let d = top r rs p in
    either_way r.holds
    (λ t. rw (t, eq-eqb r.number r.number refl))
    (λ f. rw (f, ne_eqb (verdict_of rs).refused r.number (not_given rs r.number d.above d.once)) (named rs d.rest))

pub exact_rows : ExactRows
unfolding ExactRows FirstIsGiven
exact_rows rs p = record { number = told rs; exactly = exactly (refusals rs) p; k = named rs p }
