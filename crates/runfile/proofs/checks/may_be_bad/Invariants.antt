-- The loop keeps: while none was bad, the turns passed are good.
use mathlib.Core.Path.{◌≡◌}
use mathlib.Core.Bool.{false}
use Prim.Native.Nat.{ℕ, ◌<◌}
use Rattle.runfile.specs.Reading.{bad_turn_at}
use Rattle.runfile.proofs.checks.may_be_bad.Given as goal

abbrev pub invariant-loop-b : goal.invariant-loop-b
invariant-loop-b l = l.bad ≡ false → (i : ℕ) → i < l.b-index → bad_turn_at l.n l.turns i ≡ false
