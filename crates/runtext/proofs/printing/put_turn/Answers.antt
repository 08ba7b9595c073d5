use mathlib.Core.Path.{sym}
use Rattle.script.proofs.Pages.{then}
use Rattle.runtext.proofs.printing.put_turn.Goals as goal

pub returns-then-ends : goal.returns-then-ends
returns-then-ends c = simp (c.if-ends.true, sym c.from.ensures) (then c.decimal.ensures c.put.ensures)

pub returns-else-ends : goal.returns-else-ends
returns-else-ends c = simp (c.if-ends.false, sym c.from.ensures) (then c.decimal.ensures c.put-else-ends.ensures)
