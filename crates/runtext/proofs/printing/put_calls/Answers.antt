use Rattle.runtext.proofs.Lines.{call_more}
use Rattle.runtext.proofs.printing.put_calls.Goals as goal

pub loop-i-preserved : goal.loop-i-preserved
loop-i-preserved c =
    call_more c.args.table.now c.loop-i.i c.call_at.result c.call_at.ensures c.loop-i.invariant c.put_call.ensures
