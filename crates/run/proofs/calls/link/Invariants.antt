-- The loop keeps: the calls after c are linked.
use Rattle.run.specs.Drive.{LinkedIn}
use Rattle.run.proofs.calls.link.Given as goal

abbrev pub invariant-loop-c : goal.invariant-loop-c
invariant-loop-c l = LinkedIn l.table l.row l.c
