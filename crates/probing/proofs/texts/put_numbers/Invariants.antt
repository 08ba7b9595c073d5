-- The loop keeps: the numbers so far are written.
use lib.ListN.{take}
use Rattle.script.specs.Page.{Writes}
use Rattle.probing.specs.Text.{spaced}
use Rattle.probing.proofs.texts.put_numbers.Given as goal

abbrev pub invariant-loop-x : goal.invariant-loop-x
invariant-loop-x l = Writes l.initial.page l.page (spaced (take l.x-index l.numbers))
