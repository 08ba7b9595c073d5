-- The loop keeps: the calls passed are good.
use mathlib.Core.Path.{◌≡◌}
use mathlib.Core.Bool.{false}
use Prim.Native.Nat.{ℕ, ◌<◌}
use Rattle.runfile.specs.Reading.{bad_call_at}
use Rattle.runfile.proofs.checks.first_call.Given as goal

abbrev pub invariant-loop-call : goal.invariant-loop-call
invariant-loop-call l = (i : ℕ) → i < l.call → bad_call_at l.n l.table i ≡ false
