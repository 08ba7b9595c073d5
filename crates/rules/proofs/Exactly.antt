-- A refusal is given exactly when it holds and none before it does; of a table whose numbers rise, exactly when no lower one does. Assumes nothing.
use mathlib.Core.Path.{◌≡◌, refl, ◌∙◌, sym}
use mathlib.Core.Bool.{true, false, not, ◌&&◌, false≢true}
use mathlib.Core.List.{List, [], ◌∷◌}
use Prim.Native.Nat.{ℕ, zero, suc, ◌<◌, ◌≤◌}
use native.Mathlib.Omega.{arith}
use native.Mathlib.Decide.{dec_le}
use borrow.Author.Tests.{ltb-true, lt-ltb, eqb-true, eq-eqb, ne_eqb, not-true}
use lib.Dec.{eqb, ltb}
use Rattle.rules.specs.Refusal.{Refusal, refusal_of, holds_at, earlier, absent, proper, FirstIsGiven, rising_from, LowestIsGiven}
use Rattle.rules.proofs.Facts.{either_way, and_left, and_right, or_none}

-- what a proper table says of its first refusal
pub record Head (r : Refusal) (rs : List Refusal) : Type 0 where
  pub above : 0 < r.number
  pub once : absent r.number rs ≡ true
  pub rest : proper rs ≡ true

pub head : (r : Refusal) (rs : List Refusal) → proper (r ∷ rs) ≡ true → Head r rs
head r rs e =
    let a = ltb 0 r.number in
    let b = absent r.number rs in
    let f = and_left (a && b) (proper rs) e in
    record { above = ltb-true 0 r.number (and_left a b f); once = and_right a b f; rest = and_right (a && b) (proper rs) e }

-- a number that is not in the table does not hold
absent_holds : (rs : List Refusal) (n : ℕ) → absent n rs ≡ true → holds_at rs n ≡ false
unfolding holds_at
absent_holds [] n e = refl
absent_holds (r ∷ rs) n e =
    let t = not (eqb n r.number) in
    rw (not-true (eqb n r.number) (and_left t (absent n rs) e)) (absent_holds rs n (and_right t (absent n rs) e))

Fits : List Refusal → ℕ → Type 0
Fits rs n = (holds_at rs n ≡ true) × (earlier rs n ≡ false)

-- what is given holds, and none before it does
fits : (rs : List Refusal) (n : ℕ) → proper rs ≡ true → refusal_of rs ≡ n → 0 < n → Fits rs n
unfolding Fits holds_at earlier
fits [] n p e h = absurd (omega arith)
fits (r ∷ rs) n p e h =
    either_way r.holds
    (λ t.
    let s = eq-eqb n r.number (sym e ∙ rw t) in (rw (s, t), rw s))
    (λ f.
    let d = head r rs p in
    let g = fits rs n d.rest (rw f at e) h in
    let s = ne_eqb n r.number (λ q. false≢true (sym (absent_holds rs r.number d.once) ∙ rw (← q) g.0)) in (rw s g.0, rw (s, f) g.1))

-- what holds while none before it does is given
fitting : (rs : List Refusal) (n : ℕ) → proper rs ≡ true → Fits rs n → (refusal_of rs ≡ n) × (0 < n)
unfolding Fits holds_at earlier
fitting [] n p g = absurd (false≢true g.0)
fitting (r ∷ rs) n p g =
    let d = head r rs p in
    either_way (eqb n r.number)
    (λ t.
    let q = eqb-true n r.number t in
    let k = rw t at g.0 in (rw k (sym q), omega (arith, d.above)))
    (λ f.
    let o = or_none r.holds (earlier rs n) (rw f at g.1) in
    rw o.0 (fitting rs n d.rest (rw f at g.0, o.1)))

none_holds : (rs : List Refusal) → proper rs ≡ true → refusal_of rs ≡ 0 → (n : ℕ) → holds_at rs n ≡ false
unfolding holds_at
none_holds [] p e n = refl
none_holds (r ∷ rs) p e n =
    let d = head r rs p in
    either_way r.holds
    (λ t. absurd (let z : r.number ≡ 0 = rw t at e in omega (arith, d.above)))
    (λ f. either_way (eqb n r.number) (λ s. rw (s, f)) (λ s. rw s (none_holds rs d.rest (rw f at e) n)))

none_given : (rs : List Refusal) → proper rs ≡ true → ((n : ℕ) → holds_at rs n ≡ false) → refusal_of rs ≡ 0
unfolding Fits
none_given rs p h = go (refusal_of rs) refl
  where
    go : (m : ℕ) → refusal_of rs ≡ m → refusal_of rs ≡ 0
    go zero e = e
    go (suc m) e = absurd (false≢true (sym (h (suc m)) ∙ (fits rs (suc m) p e (omega arith)).0))

pub exactly : FirstIsGiven
unfolding FirstIsGiven Fits
exactly rs p =
    record {
      some = λ n. (λ h. fits rs n p h.0 (ltb-true 0 n h.1), λ g. let k = fitting rs n p g in (k.0, lt-ltb 0 n k.1));
      none = (none_holds rs p, none_given rs p);
    }

-- what a rising table says of its first refusal
record Lowest (n : ℕ) (r : Refusal) (rs : List Refusal) : Type 0 where
  above : n < r.number
  rest : rising_from r.number rs ≡ true

lowest : (n : ℕ) (r : Refusal) (rs : List Refusal) → rising_from n (r ∷ rs) ≡ true → Lowest n r rs
lowest n r rs e =
    let a = ltb n r.number in
    let b = rising_from r.number rs in
    record { above = ltb-true n r.number (and_left a b e); rest = and_right a b e }

-- no number up to where a table rises from stands in it
low_absent : (rs : List Refusal) (n m : ℕ) → rising_from n rs ≡ true → m ≤ n → absent m rs ≡ true
low_absent [] n m p h = refl
low_absent (r ∷ rs) n m p h =
    let l = lowest n r rs p in
    let up = l.above in
    rw (ne_eqb m r.number (λ e. omega arith)) (low_absent rs r.number m l.rest (omega arith))

rising_proper : (rs : List Refusal) (n : ℕ) → rising_from n rs ≡ true → proper rs ≡ true
rising_proper [] n p = refl
rising_proper (r ∷ rs) n p =
    let l = lowest n r rs p in
    let up = l.above in
    rw (lt-ltb 0 r.number (omega arith), low_absent rs r.number r.number l.rest (omega arith)) (rising_proper rs r.number l.rest)

-- in a rising table those before a number are the lower ones
none_lower : (rs : List Refusal) (n k : ℕ) → rising_from k rs ≡ true → earlier rs n ≡ false → (m : ℕ) → m < n → holds_at rs m ≡ false
unfolding holds_at earlier
none_lower [] n k p e m h = refl
none_lower (r ∷ rs) n k p e m h =
    let l = lowest k r rs p in
    either_way (eqb n r.number)
    (λ t.
    let q = eqb-true n r.number t in
    rw (ne_eqb m r.number (λ s. omega arith)) (absent_holds rs m (low_absent rs r.number m l.rest (omega arith))))
    (λ f.
    let o = or_none r.holds (earlier rs n) (rw f at e) in
    either_way (eqb m r.number) (λ s. rw s o.0) (λ s. rw s (none_lower rs n r.number l.rest o.1 m h)))

none_before : (rs : List Refusal) (n k : ℕ) → rising_from k rs ≡ true → holds_at rs n ≡ true → ((m : ℕ) → m < n → holds_at rs m ≡ false) → earlier rs n ≡ false
unfolding holds_at earlier
none_before [] n k p t h = refl
none_before (r ∷ rs) n k p t h =
    let l = lowest k r rs p in
    either_way (eqb n r.number) (λ s. rw s)
    (λ f.
    let held : holds_at rs n ≡ true = rw f at t in
    let not_low : n ≤ r.number → ⊥ = λ g. false≢true (sym (absent_holds rs n (low_absent rs r.number n l.rest g)) ∙ held) in
    let up : r.number < n = elim (dec_le n r.number) [ yes g ↦ absurd (not_low g) | no g ↦ omega arith ] in
    let first : r.holds ≡ false = rw (eq-eqb r.number r.number refl) at (h r.number up) in
    rw (f, first)
    (none_before rs n r.number l.rest held
    (λ m g. either_way (eqb m r.number)
    (λ s.
    let q = eqb-true m r.number s in
    absent_holds rs m (low_absent rs r.number m l.rest (omega arith)))
    (λ s. rw s at (h m g)))))

pub lowest_given : LowestIsGiven
unfolding FirstIsGiven LowestIsGiven
lowest_given rs p =
    let e = exactly rs (rising_proper rs 0 p) in
    record {
      some = λ n. (
        λ h. let g = (e.some n).0 h in (g.0, none_lower rs n 0 p g.1),
        λ g. (e.some n).1 (g.0, none_before rs n 0 p g.0 g.1),
      );
      none = e.none;
    }
