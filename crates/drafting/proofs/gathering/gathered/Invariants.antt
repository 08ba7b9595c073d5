-- The loop keeps: what the bytes so far give stands on the two pages.
use lib.ListN.{take}
use Rattle.drafting.specs.Gather.{Gathered}
use Rattle.drafting.proofs.gathering.gathered.Given as goal

abbrev pub invariant-loop-i : goal.invariant-loop-i
invariant-loop-i l = Gathered l.text l.i l.initial.calls l.calls l.initial.moves l.moves l.s (take l.i l.text)
