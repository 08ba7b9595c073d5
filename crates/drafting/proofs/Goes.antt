-- Texts that are scanned to a known end, piece by piece: a word, a number, a space, a newline. Assumes nothing.
use mathlib.Core.Path.{◌≡◌, refl, ◌∙◌, ap, subst}
use mathlib.Core.Bool.{Bool, true, false, not, ◌&&◌}
use mathlib.Core.List.{List, [], ◌∷◌, ◌++◌, append_assoc, append-nil}
use Prim.Native.Nat.{ℕ, ◌+◌, ◌*◌, ◌-◌, ◌/◌, ◌%◌, ◌<◌}
use native.Mathlib.Omega.{arith}
use borrow.Author.Tests.{not-true, ne_eqb, lt-ltb, le-leb}
use lib.Dec.{eqb}
use Rattle.rules.proofs.Facts.{and_left, and_right, and_both}
use Rattle.script.specs.Decimal.{digit, decimal}
use Rattle.script.proofs.Decimals.{by_digits}
use Rattle.runtext.specs.Letters.{turns_word}
use Rattle.runfile.specs.declared.CallRecord.{CallRecord}
use Rattle.drafting.specs.declared.Stage.{Stage}
use Rattle.script.specs.Number.{no_number}
use Rattle.drafting.specs.Draft.{Drafted, number_from, same_bytes, draft, call_made, turn_made}
use Rattle.drafting.specs.Scan.{Scanned, scan, empty, is_blank, step_on, step, run, given}
use Rattle.drafting.proofs.Letters.{number_both}
use Rattle.drafting.proofs.Scans.{run_both, given_both}
use Rattle.drafting.proofs.Sane.{no_call_made, no_turn_made}

-- from one scan to another, with what is given on the way
pub record Goes (s : Scanned) (text : List ℕ) (s' : Scanned) (rows moves : List ℕ) : Type 0 where
  pub ends : run s text ≡ s'
  pub calls : given call_made s text ≡ rows
  pub turned : given turn_made s text ≡ moves

pub stays : (s : Scanned) → Goes s [] s [] []
unfolding run given
stays s = record { ends = refl; calls = refl; turned = refl }

pub both : {s s₁ s₂ : Scanned} {xs ys r m r' m' : List ℕ} → Goes s xs s₁ r m → Goes s₁ ys s₂ r' m' → Goes s (xs ++ ys) s₂ (r ++ r') (m ++ m')
both {s} {s₁} {s₂} {xs} {ys} g h =
    record {
      ends = run_both s xs ys ∙ ap (λ w. run w ys) g.ends ∙ h.ends;
      calls = given_both call_made s xs ys ∙ rw (g.ends, g.calls, h.calls);
      turned = given_both turn_made s xs ys ∙ rw (g.ends, g.turned, h.turned);
    }

-- one byte
pub byte_goes : (s s' : Scanned) (b : ℕ) → step s b ≡ s' → Goes s (b ∷ []) s' (call_made s.draft s'.draft) (turn_made s.draft s'.draft)
unfolding run given
byte_goes s s' b e = rw (← e) (record { ends = refl; calls = append-nil (call_made s.draft (step s b).draft); turned = append-nil (turn_made s.draft (step s b).draft) })

pub quiet_byte : (s s' : Scanned) (b : ℕ) → step s b ≡ s' → s.draft.q ≡ s'.draft.q → s.draft.t ≡ s'.draft.t → Goes s (b ∷ []) s' [] []
quiet_byte s s' b e f g =
    let h = byte_goes s s' b e in
    record { ends = h.ends; calls = h.calls ∙ no_call_made s.draft.q s'.draft f; turned = h.turned ∙ no_turn_made s.draft.t s'.draft g }

-- bytes that belong to a word
abbrev is_plain : ℕ → Bool
is_plain b = not (eqb b 10) && (not (eqb b 35) && not (is_blank b))

abbrev pub plain : List ℕ → Bool
plain [] = true
plain (b ∷ bs) = is_plain b && plain bs

plain_both : (xs ys : List ℕ) → plain xs ≡ true → plain ys ≡ true → plain (xs ++ ys) ≡ true
plain_both [] ys e f = f
plain_both (x ∷ xs) ys e f =
    and_both (and_left (is_plain x) (plain xs) e) (plain_both xs ys (and_right (is_plain x) (plain xs) e) f)

-- a word, or a part of one
module _ (line x n q t : ℕ) (stage : Stage) (c : CallRecord) where
  abbrev D : Drafted
  D = draft 0 stage x n q t c

  letter_on : (w : List ℕ) (b : ℕ) → is_plain b ≡ true → step (scan line false w (draft 0 stage x n q t c)) b ≡ scan line false (w ++ (b ∷ [])) (draft 0 stage x n q t c)
  unfolding step step_on
  letter_on w b e =
      let r = and_right (not (eqb b 10)) (not (eqb b 35) && not (is_blank b)) e in
      rw (
        not-true (eqb b 10) (and_left (not (eqb b 10)) (not (eqb b 35) && not (is_blank b)) e),
        not-true (eqb b 35) (and_left (not (eqb b 35)) (not (is_blank b)) r),
        not-true (is_blank b) (and_right (not (eqb b 35)) (not (is_blank b)) r),
      )

  word_on : (text w : List ℕ) → plain text ≡ true
      → Goes (scan line false w (draft 0 stage x n q t c)) text (scan line false (w ++ text) (draft 0 stage x n q t c)) [] []
  word_on [] w e = rw (append-nil w) (stays (scan line false w D))
  word_on (b ∷ bs) w e =
      subst (λ v. Goes (scan line false w D) (b ∷ bs) (scan line false v D) [] []) (append_assoc w (b ∷ []) bs)
      (both (quiet_byte (scan line false w D) (scan line false (w ++ (b ∷ [])) D) b (letter_on w b (and_left (is_plain b) (plain bs) e)) refl refl)
      (word_on bs (w ++ (b ∷ [])) (and_right (is_plain b) (plain bs) e)))

  pub word_goes : (text : List ℕ) → plain text ≡ true
      → Goes (scan line false [] (draft 0 stage x n q t c)) text (scan line false text (draft 0 stage x n q t c)) [] []
  word_goes text e = word_on text [] e

-- a digit more
digit_on : (m d : ℕ) → d < 10 → m < no_number → number_from m (digit d ∷ []) ≡ 10 * m + d
unfolding number_from
digit_on m d h g =
    let e : 48 + d - 48 ≡ d = omega arith in
    rw (le-leb 48 (48 + d) (omega arith), le-leb (48 + d) 57 (omega arith), lt-ltb m no_number g, e)

-- a word that starts below the letters is there, and is not `turns`
abbrev Low : List ℕ → Type 0
Low [] = ⊥
Low (b ∷ bs) = b < 58

low_more : (l r : List ℕ) → Low l → Low (l ++ r)
low_more [] r h = absurd h
low_more (b ∷ l) r h = h

low_there : (l : List ℕ) → Low l → empty l ≡ false
unfolding empty
low_there [] h = absurd h
low_there (b ∷ l) h = refl

low_other : (l : List ℕ) → Low l → same_bytes l turns_word ≡ false
unfolding same_bytes
low_other [] h = absurd h
low_other (b ∷ l) h = rw (ne_eqb b 116 (λ e. omega arith)) refl

plain_digit : (d : ℕ) → d < 10 → plain (digit d ∷ []) ≡ true
plain_digit d h =
    rw (
      ne_eqb (48 + d) 10 (λ e. omega arith),
      ne_eqb (48 + d) 35 (λ e. omega arith),
      ne_eqb (48 + d) 32 (λ e. omega arith),
      ne_eqb (48 + d) 9 (λ e. omega arith),
      ne_eqb (48 + d) 13 (λ e. omega arith),
    )

-- a number is read as it was printed
pub record Numeral (v : ℕ) (l : List ℕ) : Type 0 where
  pub number : number_from 0 l ≡ v
  pub letters : plain l ≡ true
  pub low : Low l

numeral : (v : ℕ) → v < no_number → Numeral v (decimal v)
numeral =
    by_digits (λ v l. v < no_number → Numeral v l)
    (λ v h g.
    let e : 10 * 0 + v ≡ v = omega arith in
    record { number = digit_on 0 v h (omega arith) ∙ e; letters = plain_digit v h; low = omega arith })
    (λ v h p g.
    let i = p (omega arith) in
    let e : 10 * (v / 10) + v % 10 ≡ v = omega arith in
    record {
      number = number_both 0 (decimal (v / 10)) (digit (v % 10) ∷ [])
          ∙ ap (λ m. number_from m (digit (v % 10) ∷ [])) i.number
          ∙ digit_on (v / 10) (v % 10) (omega arith) (omega arith)
          ∙ e;
      letters = plain_both (decimal (v / 10)) (digit (v % 10) ∷ []) i.letters (plain_digit (v % 10) (omega arith));
      low = low_more (decimal (v / 10)) (digit (v % 10) ∷ []) i.low;
    })

module _ (v : ℕ) (h : v < no_number) where
  pub number_told : number_from 0 (decimal v) ≡ v
  number_told = (numeral v h).number

  pub number_there : empty (decimal v) ≡ false
  number_there = low_there (decimal v) (numeral v h).low

  pub number_other : same_bytes (decimal v) turns_word ≡ false
  number_other = low_other (decimal v) (numeral v h).low

  pub number_goes : (line x n q t : ℕ) (stage : Stage) (c : CallRecord)
      → Goes (scan line false [] (draft 0 stage x n q t c)) (decimal v) (scan line false (decimal v) (draft 0 stage x n q t c)) [] []
  number_goes line x n q t stage c = word_goes line x n q t stage c (decimal v) (numeral v h).letters
