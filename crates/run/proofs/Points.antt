-- Points and the list in the row. Assumes nothing.
use mathlib.Core.Path.{◌≡◌, refl, ◌∙◌, sym, ap}
use mathlib.Core.List.{List, [], ◌∷◌}
use Prim.Native.Nat.{ℕ, zero, suc, ◌+◌, ◌<◌, ◌≤◌}
use native.Mathlib.Omega.{arith}
use native.Mathlib.Numerals.{add-one}
use native.Mathlib.Nat.{le_of_suc-le-suc, not-suc-le-zero}
use borrow.Author.Tests.{eq-eqb, ne_eqb}
use lib.Dec.{eqb}
use lib.ListN.{length, get_or, set, length-set}
use lib.Seq.{take-suc-set}
use Rattle.rules.proofs.Facts.{either_way}
use Rattle.run.specs.declared.Tally.{Tally}
use Rattle.run.specs.Book.{enters}
use Rattle.run.specs.Row.{by_call, by_station, size_of, start_of, part_of, wrote, notes_by, point_count, CallsWithin, RowFits, Becomes}
use Rattle.run.proofs.Written.{written, read, long}

pub most : (l : List ℕ) → point_count l ≤ length l
unfolding point_count
most [] = omega arith
most (q ∷ qs) = either_way (eqb q 0) (λ t. rw t (omega (arith, most qs))) (λ t. rw t (omega (arith, most qs)))

-- where a call has no point there is room for another
pub room : (point : List ℕ) (c : ℕ) → c < length point → get_or point c 0 ≡ 0 → point_count point < length point
unfolding point_count
room [] c h e = absurd (not-suc-le-zero h)
room (p ∷ ps) zero h e = rw (eq-eqb p 0 e) (omega (arith, most ps))
room (p ∷ ps) (suc c) h e =
    let r = room ps c (le_of_suc-le-suc h) e in
    either_way (eqb p 0) (λ t. rw t (omega arith)) (λ t. rw t (omega arith))

-- a point more
pub point_more : (point : List ℕ) (c turn : ℕ) → c < length point → get_or point c 0 ≡ 0 → 1 ≤ turn → point_count (set point c turn) ≡ point_count point + 1
unfolding point_count
point_more [] c turn h e g = absurd (not-suc-le-zero h)
point_more (p ∷ ps) zero turn h e g = rw (eq-eqb p 0 e, ne_eqb turn 0 (λ q. omega arith)) (omega arith)
point_more (p ∷ ps) (suc c) turn h e g = rw (point_more ps c turn (le_of_suc-le-suc h) e g) (omega arith)

-- a call's number put into a row of such
pub within_set : (latest : List ℕ) (i c : ℕ) → c < by_call → CallsWithin latest → CallsWithin (set latest i c)
within_set [] i c h k j = k j
within_set (x ∷ l) zero c h k zero = h
within_set (x ∷ l) zero c h k (suc j) = k (suc j)
within_set (x ∷ l) (suc i) c h k zero = k zero
within_set (x ∷ l) (suc i) c h k (suc j) = within_set l i c h (λ m. k (suc m)) j

abbrev pub one_listed : Tally → Tally
one_listed s = record { idle = s.idle; begun = s.begun; ended = s.ended; listed = s.listed + 1 }

-- no more are listed than there are places
pub few_listed : {row : List ℕ} {s : Tally} → RowFits row s → s.listed ≤ by_call
unfolding size_of
few_listed {row} f = omega (arith, f.all, long row 3 f.places (omega arith), most (part_of row 3))

-- the latest call of station j, where the row has it
module _ (row : List ℕ) (s : Tally) (j turn : ℕ) (f : RowFits row s) (inside : j < by_station) where
  abbrev pub c : ℕ
  c = get_or row (5125 + j) 0

  is_latest : get_or (part_of row 5) j 0 ≡ c
  unfolding start_of size_of
  is_latest = read row 5 j inside

  pub small : c < by_call
  small = rw is_latest at (f.within j)

  pub point_in : 3075 + c < length row
  point_in = omega (arith, small, f.places)

  at_point : get_or (part_of row 3) c 0 ≡ get_or row (3075 + c) 0
  unfolding start_of size_of
  at_point = read row 3 c small

  pub not_a_call : c ≡ 0 → Becomes row s (enters turn j) row s
  unfolding enters
  not_a_call e = record { notes = rw (is_latest, eq-eqb c 0 e) refl; fits = f }

  pub has_one : (c ≡ 0 → ⊥) → (get_or row (3075 + c) 0 ≡ 0 → ⊥) → Becomes row s (enters turn j) row s
  unfolding enters
  has_one d e = record { notes = rw (is_latest, ne_eqb c 0 d, at_point, ne_eqb (get_or row (3075 + c) 0) 0 e) refl; fits = f }

  module _ (t : 0 < turn) (d : c ≡ 0 → ⊥) (e : get_or row (3075 + c) 0 ≡ 0) where
    pub place : s.listed < by_call
    unfolding size_of
    place =
        let l = long row 3 f.places (omega arith) in
        omega (arith, f.all, l, room (part_of row 3) c (omega (arith, l, small)) (at_point ∙ e))

    pub list_in : 4100 + s.listed < length (set row (3075 + c) turn)
    list_in = simp length-set (omega (arith, place, f.places))

    abbrev row' : List ℕ
    row' = set (set row (3075 + c) turn) (4100 + s.listed) c

    both : part_of row' ≡ wrote (wrote (part_of row) 3 c turn) 4 s.listed c
    unfolding start_of size_of
    both = written (set row (3075 + c) turn) 4 s.listed c place ∙ ap (λ parts. wrote parts 4 s.listed c) (written row 3 c turn small)

    pub entered : Becomes row s (enters turn j) row' (one_listed s)
    unfolding enters size_of
    entered =
        let l = long row 3 f.places (omega arith) in
        let m = long row 4 f.places (omega arith) in
        record {
          notes =
              ap (λ parts. notes_by parts (one_listed s)) both
              ∙ rw (is_latest, ne_eqb c 0 d, at_point, eq-eqb (get_or row (3075 + c) 0) 0 e, add-one, take-suc-set (part_of row 4) s.listed c (omega (arith, m, place))) refl;
          fits =
              record {
                places = length-set (set row (3075 + c) turn) (4100 + s.listed) c ∙ length-set row (3075 + c) turn ∙ f.places;
                all =
                    ap (λ k. k + 1) f.all ∙ sym (point_more (part_of row 3) c turn (omega (arith, l, small)) (at_point ∙ e) t)
                    ∙ ap (λ (parts : ℕ → List ℕ). point_count (parts 3)) (sym both);
                within = λ i. rw both (f.within i);
              };
        }
