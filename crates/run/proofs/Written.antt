-- The one law of the row: what is written at a place of a part stands there, and every other part is as it was. Assumes nothing.
use mathlib.Core.Path.{◌≡◌, ◌∙◌, ap}
use mathlib.Core.List.{List}
use Prim.Native.Nat.{ℕ, zero, suc, ◌+◌, ◌-◌, ◌<◌, ◌≤◌}
use native.Mathlib.Omega.{arith}
use native.Mathlib.Decide.{ℕ_discrete, dec_le}
use borrow.Author.Tests.{eq-eqb, ne_eqb}
use lib.ListN.{length, get_or, set, take, drop, length-drop}
use lib.Seq.{take-set-le, take-set-lt, drop-set-lt, drop-set-add, get_or-take, get_or-drop, length-take-le}
use Rattle.runfile.specs.Layout.{part}
use Rattle.run.specs.Row.{size_of, start_of, row_places, part_of, wrote}

-- a part ends before the next one starts
pub in_order : (p q : ℕ) → p < q → start_of p + size_of p ≤ start_of q
unfolding start_of
in_order p zero h = absurd (omega arith)
in_order p (suc q) h =
    elim (ℕ_discrete p q) [
      | yes e ↦ rw e (omega arith)
      | no n ↦ let before = in_order p q (omega arith) in omega arith
    ]

same_part : (row : List ℕ) (p i x : ℕ) → i < size_of p → part_of (set row (start_of p + i) x) p ≡ set (part_of row p) i x
unfolding part_of
same_part row p i x h = ap (take (size_of p)) (drop-set-add (start_of p) row i x) ∙ take-set-lt (size_of p) (drop (start_of p) row) i x h

other_part : (row : List ℕ) (p q i x : ℕ) → i < size_of p → (q ≡ p → ⊥) → part_of (set row (start_of p + i) x) q ≡ part_of row q
unfolding part_of
other_part row p q i x h n =
    elim (dec_le q p) [
      | yes l ↦
          let before = in_order q p (omega arith) in
          let j = start_of p + i - start_of q in
          let at : start_of p + i ≡ start_of q + j = omega arith in
          ap (λ k. part (set row k x) (start_of q) (size_of q)) at ∙ ap (take (size_of q)) (drop-set-add (start_of q) row j x)
          ∙ take-set-le (size_of q) (drop (start_of q) row) j x (omega arith)
      | no l ↦
          let before = in_order p q (omega arith) in
          ap (take (size_of q)) (drop-set-lt (start_of q) row (start_of p + i) x (omega arith))
    ]

pub written : (row : List ℕ) (p i x : ℕ) → i < size_of p → part_of (set row (start_of p + i) x) ≡ wrote (part_of row) p i x
written row p i x h =
    let each : (q : ℕ) → part_of (set row (start_of p + i) x) q ≡ wrote (part_of row) p i x q =
    λ q.
    elim (ℕ_discrete q p) [
      | yes e ↦ rw (eq-eqb q p e) (ap (part_of (set row (start_of p + i) x)) e ∙ same_part row p i x h)
      | no n ↦ rw (ne_eqb q p n) (other_part row p q i x h n)
    ] in
    λ k q. each q k

-- a place of a part, as a place of the row
pub read : (row : List ℕ) (p i : ℕ) → i < size_of p → get_or (part_of row p) i 0 ≡ get_or row (start_of p + i) 0
unfolding part_of
read row p i h = get_or-take (size_of p) (drop (start_of p) row) i 0 h ∙ get_or-drop (start_of p) row i 0

pub long : (row : List ℕ) (p : ℕ) → length row ≡ row_places → p < 9 → length (part_of row p) ≡ size_of p
unfolding start_of size_of part_of
long row p e h =
    let fits : start_of p + size_of p ≤ 6249 = in_order p 9 h in
    length-take-le (size_of p) (drop (start_of p) row) (simp length-drop (omega arith))
