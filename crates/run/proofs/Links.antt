-- Whose next call is which, from the table's end down, in lists and in the row. Assumes nothing.
use mathlib.Core.Path.{◌≡◌, ◌∙◌, sym, ap}
use mathlib.Core.Bool.{cond}
use mathlib.Core.List.{List}
use Prim.Native.Nat.{ℕ, zero, suc, ◌+◌, ◌-◌, ◌<◌, ◌≤◌}
use native.Mathlib.Omega.{arith}
use native.Mathlib.Decide.{ℕ_discrete}
use borrow.Author.Tests.{eq-eqb, ne_eqb}
use lib.Dec.{eqb}
use lib.ListN.{length, get_or, set, take, drop, replicate, get_or-replicate, length-set, length-replicate, replicate-append-replicate}
use lib.Seq.{get_or-set_same, get_or-set_other, take_at, drop_at}
use Rattle.runfile.specs.First.{first_from}
use Rattle.runfile.specs.Layout.{records, call_of}
use Rattle.run.specs.Calls.{call_after, Linked}
use Rattle.run.specs.Row.{by_station, size_of, start_of, row_places, zero_row, part_of, wrote}
use Rattle.run.specs.Drive.{LinkedIn}
use Rattle.run.proofs.Written.{in_order, written, read, long}

-- no call stands after the last
pub none_after : (table : List ℕ) (i c : ℕ) → records table ≤ c → call_after table i c ≡ 0
unfolding call_after first_from
none_after table i c h =
    let e : records table - c ≡ 0 = omega arith in
    rw e

-- before call c + 1: that call, if it is the station's, or else the first after it
pub one_before : (table : List ℕ) (i c : ℕ) → c < records table
    → call_after table i c ≡ cond (eqb (call_of table (suc c)).station i) (suc c) (call_after table i (suc c))
unfolding call_after first_from
one_before table i c h =
    let e : records table - c ≡ suc (records table - suc c) = omega arith in
    rw e

module _ (table next head : List ℕ) (c : ℕ) (h : c < records table) (n : records table < length next) (l : 33 ≡ length head) where
  abbrev owner : ℕ
  owner = (call_of table (suc c)).station

  -- one call more, from the end
  pub link_more : owner < 33 → Linked table next head (suc c) → Linked table (set next (suc c) (get_or head owner 0)) (set head owner (suc c)) c
  link_more o k =
      record {
        first =
            λ i g.
            elim (ℕ_discrete i owner) [
              | yes e ↦ ap (λ j. get_or (set head owner (suc c)) j 0) e ∙ get_or-set_same head owner (suc c) 0 (omega arith)
                  ∙ sym (one_before table i c h ∙ rw (eq-eqb owner i (sym e)))
              | no d ↦ get_or-set_other head owner i (suc c) 0 d ∙ k.first i g
                  ∙ sym (one_before table i c h ∙ rw (ne_eqb owner i (λ e. d (sym e))))
            ];
        after =
            λ d g m.
            elim (ℕ_discrete d (suc c)) [
              | yes e ↦ rw e (get_or-set_same next (suc c) (get_or head owner 0) 0 (omega arith) ∙ k.first owner o)
              | no q ↦ get_or-set_other next (suc c) d (get_or head owner 0) 0 q ∙ k.after d (omega arith) m
            ];
      }

-- nothing linked yet
pub unlinked : (table next : List ℕ) → Linked table next (replicate 33 0) (records table)
unlinked table next =
    record {
      first = λ i g. get_or-replicate 33 i 0 0 g ∙ sym (none_after table i (records table) (omega arith));
      after = λ d g m. absurd (omega arith);
    }

-- the same, as the loop counts down
pub link_down : (table next head : List ℕ) (c : ℕ) → 0 < c → c ≤ records table → records table < length next → length head ≡ 33
    → (call_of table c).station < 33 → Linked table next head c
    → Linked table (set next c (get_or head (call_of table c).station 0)) (set head (call_of table c).station c) (c - 1)
link_down table next head zero p h n l o k = absurd (omega arith)
link_down table next head (suc c) p h n l o k =
    let e : suc c - 1 ≡ c = omega arith in
    rw e (link_more table next head c h n (sym l) o k)

-- a part of zeros
zero_part : (a k m : ℕ) → a + k ≤ m → take k (drop a (replicate m 0)) ≡ replicate {A = ℕ} k 0
zero_part a k m h =
    let r = m - (a + k) in
    let e : m ≡ a + (k + r) = omega arith in
    let zeros : (n : ℕ) → List ℕ = λ n. replicate n 0 in
    ap (λ n. take k (drop a (zeros n))) e
    ∙ ap (λ l. take k (drop a l)) (sym (replicate-append-replicate a (k + r) 0))
    ∙ ap (take k) (drop_at (zeros a) (zeros (k + r)) a (length-replicate a 0))
    ∙ ap (take k) (sym (replicate-append-replicate k r 0))
    ∙ take_at (zeros k) (zeros r) k (length-replicate k 0)

pub zeros_in : (q : ℕ) → q < 9 → part_of zero_row q ≡ replicate (size_of q) 0
unfolding start_of size_of zero_row part_of
zeros_in q h =
    let fits : start_of q + size_of q ≤ 6249 = in_order q 9 h in
    zero_part (start_of q) (size_of q) 6249 fits

pub zero_places : length zero_row ≡ row_places
unfolding zero_row
zero_places = length-replicate {A = ℕ} row_places 0

-- nothing linked yet, in a row of zeros
pub unlinked_in : (table row : List ℕ) → row ≡ zero_row → LinkedIn table row (records table)
unfolding size_of
unlinked_in table row e =
    rw e
    (record {
      places = zero_places;
      zeros = λ q h. zeros_in q (omega arith);
      linked = rw (zeros_in 7 (omega arith)) (unlinked table (part_of zero_row 8));
    })

-- a call more, in the row
module _ (table row : List ℕ) (c : ℕ) (p : 0 < c) (h : c ≤ records table) (few : records table ≤ 1024) (o : (call_of table c).station < by_station) (k : LinkedIn table row c) where
  abbrev i : ℕ
  i = (call_of table c).station

  abbrev x : ℕ
  x = get_or row (5191 + i) 0

  is_head : x ≡ get_or (part_of row 7) i 0
  unfolding start_of size_of
  is_head = sym (read row 7 i o)

  abbrev pub linked_row : List ℕ
  linked_row = set (set row (5224 + c) x) (5191 + i) c

  two : part_of linked_row ≡ wrote (wrote (part_of row) 8 c x) 7 i c
  unfolding start_of size_of
  two = written (set row (5224 + c) x) 7 i c o ∙ ap (λ parts. wrote parts 7 i c) (written row 8 c x (omega arith))

  still_zero : (q : ℕ) → q < 7 → part_of linked_row q ≡ replicate (size_of q) 0
  still_zero q g = ap (λ (parts : ℕ → List ℕ). parts q) two ∙ rw (ne_eqb q 7 (λ e. omega arith), ne_eqb q 8 (λ e. omega arith)) (k.zeros q g)

  pub linked_row_lem : LinkedIn table linked_row (c - 1)
  unfolding size_of
  linked_row_lem =
      let l = long row 8 k.places (omega arith) in
      record {
        places = length-set (set row (5224 + c) x) (5191 + i) c ∙ length-set row (5224 + c) x ∙ k.places;
        zeros = still_zero;
        linked = rw (two, is_head) (link_down table (part_of row 8) (part_of row 7) c p h (omega (arith, l)) (long row 7 k.places (omega arith)) o k.linked);
      }
