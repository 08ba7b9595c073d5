-- The loop keeps: the bytes of the text so far are written.
use lib.ListN.{take}
use Rattle.script.specs.Page.{Writes}
use Rattle.script.proofs.Page.word.Given as goal

abbrev pub invariant-loop-b : goal.invariant-loop-b
invariant-loop-b l = Writes l.initial.self l.self (take l.b-index l.text)
