-- The writer refuses a good run for want of room alone. Assumes nothing.
use mathlib.Core.Path.{◌≡◌, refl, ◌∙◌, ap}
use mathlib.Core.Bool.{Bool, false, cond}
use mathlib.Core.List.{List, [], ◌∷◌, ◌++◌}
use Prim.Native.Nat.{ℕ, ◌%◌, ◌<◌, ◌≤◌}
use native.Mathlib.Omega.{arith}
use borrow.Author.Tests.{eq-eqb, ne_eqb, le-ltb, lt-ltb}
use lib.Dec.{eqb, ltb}
use lib.ListN.{length, drop}
use Rattle.rules.specs.Limits.{station_limit, call_limit, turn_limit}
use Rattle.rules.specs.Row.{Row, verdict, verdict_of}
use Rattle.rules.proofs.Rows.{Clear, clear_both}
use Rattle.runfile.specs.Layout.{records, file_of}
use Rattle.rules.specs.Reason.{Numbers}
use Rattle.runfile.specs.First.{first_of}
use Rattle.runfile.specs.Reading.{bad_call_at, bad_turn_at, first_call, first_turn, part_rows}
use Rattle.runfile.specs.Writing.{file_length, length_rows, room_rows, write_rows, wrote, write_by, write_of, out_of, Written}
use Rattle.runfile.proofs.First.{searched}
use Rattle.runtext.proofs.Runs.{GoodRun}

-- rows that do not hold are passed over
skipped : (rs qs : List Row) → Clear rs → verdict_of (rs ++ qs) ≡ verdict_of qs
skipped [] qs c = refl
skipped (r ∷ rs) qs c = rw c.0 (skipped rs qs c.1)

-- where nothing is bad, a search finds nothing
none_found : (p : ℕ → Bool) (m : ℕ) → ((i : ℕ) → i < m → p i ≡ false) → ltb 0 (first_of p m) ≡ false
none_found p m h = le-ltb 0 (first_of p m) (omega (arith, (searched p m).none.1 h))

-- the writer refuses a good run for want of room alone
module _ (x n : ℕ) (table turns : List ℕ) (g : GoodRun x n table turns) where
  no_number : Clear (length_rows n table turns)
  no_number =
      let a = g.some in
      let b = g.few in
      let w = g.whole in
      let z : eqb n 0 ≡ false = ne_eqb n 0 (λ e. omega arith) in
      let m : length table % 12 ≡ 0 = omega arith in (
        rw (z, le-ltb station_limit n b),
        (le-ltb call_limit (records table) g.calls, (le-ltb turn_limit (length turns) g.moves, (rw (eq-eqb (length table % 12) 0 m), tt))),
      )

  no_part : Clear (part_rows n table turns)
  unfolding first_call first_turn
  no_part = (none_found (bad_call_at n table) (records table) g.good_calls, (none_found (bad_turn_at n turns) (length turns) g.good_turns, tt))

  -- a good run is written where there is room
  pub written : (room : ℕ) → file_length table turns ≤ room → Clear (write_rows n table turns room)
  written room h =
      clear_both (length_rows n table turns) (part_rows n table turns ++ room_rows table turns room) no_number
      (clear_both (part_rows n table turns) (room_rows table turns room) no_part (le-ltb room (file_length table turns) h, tt))

  -- and a buffer that is too short is left as it was
  pub no_room : (out : List ℕ) (answer : Numbers) (after : List ℕ) → length out < file_length table turns
      → Written x n table turns out answer after → (answer ≡ wrote 14 0 0) × (after ≡ out)
  unfolding write_of out_of
  no_room out answer after h w =
      let room = length out in
      let len = file_length table turns in
      let e : verdict_of (write_rows n table turns room) ≡ verdict 14 0 =
      skipped (length_rows n table turns) (part_rows n table turns ++ room_rows table turns room) no_number
      ∙ skipped (part_rows n table turns) (room_rows table turns room) no_part
      ∙ rw (lt-ltb room len h) in
      (w.answered ∙ ap (λ v. write_by v len) e, w.left ∙ ap (λ v. cond (eqb (write_by v len).refused 0) (file_of x n table turns ++ drop len out) out) e)
