-- What the writer answers and leaves in the buffer, from its verdict. Assumes nothing.
use mathlib.Core.Path.{◌≡◌, refl, ◌∙◌, sym, ap}
use mathlib.Core.Bool.{cond}
use mathlib.Core.List.{List, ◌++◌}
use Prim.Native.Nat.{ℕ, ◌*◌, ◌%◌, ◌≤◌}
use native.Mathlib.Omega.{arith}
use borrow.Author.Tests.{eqb-true, eqb-false, eq-eqb, ne_eqb, ltb-false}
use lib.Dec.{eqb}
use lib.ListN.{length, drop, length-append, length-drop}
use lib.Seq.{drop_at}
use Rattle.rules.specs.Row.{Verdict}
use Rattle.rules.specs.Row.{verdict_of}
use Rattle.rules.proofs.Facts.{either_way}
use Rattle.rules.proofs.Rows.{Clear, none_given, silent, chosen, clear, clear_front, clear_back}
use Rattle.rules.specs.Reason.{Numbers}
use Rattle.runfile.specs.Layout.{records, trailer, file_of}
use Rattle.runfile.specs.Reading.{part_rows}
use Rattle.runfile.specs.Writing.{file_length, length_rows, room_rows, write_rows, wrote, write_by, write_of, out_of, Written}
use Rattle.runfile.specs.Promise.{OnlyOutput, WritesOnlyOutput}
use Rattle.runfile.proofs.Limits.{Within, within}
use Rattle.runfile.proofs.Trailers.{length-trailer}

pub length-file : (x n : ℕ) (table turns : List ℕ) → length (file_of x n table turns) ≡ file_length table turns
unfolding file_of
length-file x n table turns =
    simp length-append (omega (arith, length-trailer (trailer x n (records table) (length turns))))

-- what it says that the writer refuses nothing
pub record Accepted (n : ℕ) (table turns : List ℕ) (room : ℕ) : Type 0 where
  pub rows : Clear (write_rows n table turns room)
  pub lengths : Clear (length_rows n table turns)
  pub limits : Within n (records table) (length turns) (eqb (length table % 12) 0)
  pub parts : Clear (part_rows n table turns)
  pub fits : file_length table turns ≤ room

pub accepted : (n : ℕ) (table turns : List ℕ) (room : ℕ) → (verdict_of (write_rows n table turns room)).refused ≡ 0 → Accepted n table turns room
accepted n table turns room e =
    let f = clear (write_rows n table turns room) refl e in
    let l = clear_front (length_rows n table turns) (part_rows n table turns ++ room_rows table turns room) f in
    let g = clear_back (length_rows n table turns) (part_rows n table turns ++ room_rows table turns room) f in
    record {
      rows = f;
      lengths = l;
      limits = within n (records table) (length turns) (eqb (length table % 12) 0) l;
      parts = clear_front (part_rows n table turns) (room_rows table turns room) g;
      fits = ltb-false room (file_length table turns) (clear_back (part_rows n table turns) (room_rows table turns room) g).0;
    }

-- an accepted table has whole records
pub whole_table : (n : ℕ) (table turns : List ℕ) (room : ℕ) → Accepted n table turns room → 12 * records table ≡ length table
whole_table n table turns room a = omega (arith, eqb-true (length table % 12) 0 a.limits.agreed)

-- the answer's number and K are those of its rows
module _ (n : ℕ) (table turns : List ℕ) (room : ℕ) where
  abbrev v : Verdict
  v = verdict_of (write_rows n table turns room)

  abbrev done : Numbers
  done = wrote 0 0 (file_length table turns)

  pub write_number : (write_of n table turns room).refused ≡ (verdict_of (write_rows n table turns room)).refused
  unfolding write_of
  write_number = chosen (λ r. r.refused) v done (wrote v.refused v.k 0) sym refl

  pub write_k : (write_of n table turns room).k ≡ (verdict_of (write_rows n table turns room)).k
  unfolding write_of
  write_k = chosen (λ r. r.k) v done (wrote v.refused v.k 0) (λ e. sym (ap (λ w. w.k) (silent (write_rows n table turns room) refl e))) refl

-- what the writer hands back, from the verdict that it found
module _ (x n : ℕ) (table turns out : List ℕ) (v : Verdict) (e : v ≡ verdict_of (write_rows n table turns (length out))) where
  pub refuses : (v.refused ≡ 0 → ⊥) → Written x n table turns out (wrote v.refused v.k 0) out
  unfolding write_of out_of
  refuses h =
      let b = ne_eqb v.refused 0 h in
      record { answered = simp (sym e, b); left = simp (sym e, b, b) }

  pub writes : v.refused ≡ 0 → (after : List ℕ) → after ≡ file_of x n table turns ++ drop (file_length table turns) out
      → Written x n table turns out (wrote 0 0 (file_length table turns)) after
  unfolding write_of out_of
  writes h after s =
      let b = eq-eqb v.refused 0 h in
      record { answered = simp (sym e, b); left = simp (sym e, b) s }

-- where no row holds, the file stands in front of the buffer
pub clear_writes : (x n : ℕ) (table turns out : List ℕ) (answer : Numbers) (after : List ℕ) → Clear (write_rows n table turns (length out))
    → Written x n table turns out answer after
    → (answer ≡ wrote 0 0 (file_length table turns)) × (after ≡ file_of x n table turns ++ drop (file_length table turns) out)
unfolding write_of out_of
clear_writes x n table turns out answer after c w =
    let e = none_given (write_rows n table turns (length out)) c in
    (w.answered ∙ ap (λ v. write_by v (file_length table turns)) e, w.left ∙ ap (λ v. cond (eqb (write_by v (file_length table turns)).refused 0) (file_of x n table turns ++ drop (file_length table turns) out) out) e)

module _ (x n : ℕ) (table turns out : List ℕ) (answer : Numbers) (after : List ℕ) (w : Written x n table turns out answer after) where
  -- an answer that refuses nothing is that of an accepted input, whose file stands in front of the buffer
  pub taken : answer.refused ≡ 0 → Accepted n table turns (length out)
  taken e =
      accepted n table turns (length out) (sym (write_number n table turns (length out)) ∙ sym (ap (λ r. r.refused) w.answered) ∙ e)

  pub len_is : answer.refused ≡ 0 → answer.len ≡ file_length table turns
  len_is e = ap (λ r. r.len) (clear_writes x n table turns out answer after (taken e).rows w).0

  pub stands : answer.refused ≡ 0 → after ≡ file_of x n table turns ++ drop (file_length table turns) out
  stands e = (clear_writes x n table turns out answer after (taken e).rows w).1

  unchanged : (answer.refused ≡ 0 → ⊥) → after ≡ out
  unfolding out_of
  unchanged h = w.left ∙ rw (ne_eqb (write_of n table turns (length out)).refused 0 (λ e. h (ap (λ r. r.refused) w.answered ∙ e)))

  same : length after ≡ length out
  same =
      either_way (eqb answer.refused 0)
      (λ t.
      let e = eqb-true answer.refused 0 t in
      let f = (taken e).fits in
      ap length (stands e) ∙ simp (length-append, length-drop) (omega (arith, length-file x n table turns)))
      (λ u. ap length (unchanged (eqb-false answer.refused 0 u)))

  only_output : OnlyOutput table turns out answer after
  only_output =
      record {
        refused = unchanged;
        len = λ e. len_is e ∙ (let l = whole_table n table turns (length out) (taken e) in omega arith);
        rest = λ e. rw (len_is e) (ap (drop (file_length table turns)) (stands e) ∙ drop_at (file_of x n table turns) (drop (file_length table turns) out) (file_length table turns) (length-file x n table turns));
        same = same;
      }

pub writes_only_output : WritesOnlyOutput
unfolding WritesOnlyOutput
writes_only_output = only_output
