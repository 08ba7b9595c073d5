-- The loop keeps: the bytes so far are written.
use lib.ListN.{take}
use Rattle.script.specs.Page.{Writes}
use Rattle.probing.specs.Text.{hexes}
use Rattle.probing.proofs.texts.put_hexes.Given as goal

abbrev pub invariant-loop-b : goal.invariant-loop-b
invariant-loop-b l = Writes l.initial.page l.page (hexes (take l.b-index l.bytes))
