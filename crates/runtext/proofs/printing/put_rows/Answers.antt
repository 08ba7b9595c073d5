use Rattle.runtext.proofs.Lines.{turn_more}
use Rattle.runtext.proofs.printing.put_rows.Goals as goal

pub loop-i-preserved : goal.loop-i-preserved
loop-i-preserved c = turn_more c.args.turns.now c.loop-i.i c.loop-i.invariant (rw c.row_ends.ensures at c.put_turn.ensures)
