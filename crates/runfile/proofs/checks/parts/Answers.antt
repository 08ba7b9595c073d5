use mathlib.Core.Path.{◌≡◌}
use mathlib.Core.List.{List}
use Prim.Native.Nat.{ℕ, ◌+◌}
use native.Mathlib.Omega.{arith}
use borrow.Author.Tests.{lt-ltb}
use lib.ListN.{length}
use Rattle.std.specs.Prelude.{Option, Some, None}
use Rattle.runfile.specs.First.{Tells}
use Rattle.runfile.specs.Layout.{records}
use Rattle.runfile.specs.Reading.{bad_call_at, bad_turn_at, first_call, first_turn}
use Rattle.runfile.proofs.First.{place_of, told}
use Rattle.runfile.proofs.checks.parts.Goals as goal

call : (n : ℕ) (table : List ℕ) (r : Option ℕ) → Tells (bad_call_at n table) (records table) r → first_call n table ≡ place_of r
unfolding first_call
call n table = told (bad_call_at n table) (records table)

turn : (n : ℕ) (turns : List ℕ) (r : Option ℕ) → Tells (bad_turn_at n turns) (length turns) r → first_turn n turns ≡ place_of r
unfolding first_turn
turn n turns = told (bad_turn_at n turns) (length turns)

pub returns-in-Some : goal.returns-in-Some
returns-in-Some c =
    simp (call c.args.n c.args.table.now (Some c.in-Some.call) c.in-Some.ensures, lt-ltb 0 (c.in-Some.call + 1) (omega arith))

pub returns-in-Some-first_turn : goal.returns-in-Some-first_turn
returns-in-Some-first_turn c =
    simp (call c.args.n c.args.table.now None c.in_default.ensures, turn c.args.n c.args.turns.now (Some c.in-Some-first_turn.turn) c.in-Some-first_turn.ensures, lt-ltb 0 (c.in-Some-first_turn.turn + 1) (omega arith))

pub returns : goal.returns
returns c =
    simp (call c.args.n c.args.table.now None c.in_default.ensures, turn c.args.n c.args.turns.now None c.in_default-first_turn.ensures)
