-- The loop keeps: the digits of n, and then those in the scratch row from first + 1 on, are the digits of x.
use Rattle.script.proofs.Decimals.{Filled}
use Rattle.script.proofs.Page.decimal.Given as goal

abbrev pub invariant-loop-n : goal.invariant-loop-n
invariant-loop-n l = Filled l.x l.n l.first l.digits

abbrev pub decreases-loop-n : goal.decreases-loop-n
decreases-loop-n l = l.n
