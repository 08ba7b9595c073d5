-- `read_full` ends, since each turn leaves less to fill.
use Rattle.std.proofs.Common.{length, ◌-◌, ◌≡◌, ◌≤◌}
use Rattle.standard.proofs.read_full.Given as goal

abbrev pub invariant-loop-len : goal.invariant-loop-len
invariant-loop-len g l = (length l.buf ≡ length l.initial.buf) × (l.len ≤ length l.buf)

abbrev pub decreases-loop-len : goal.decreases-loop-len
decreases-loop-len g l = length l.initial.buf - l.len
