use Rattle.script.proofs.Pages.{byte_more}
use Rattle.script.proofs.Page.word.Goals as goal

pub loop-b-preserved : goal.loop-b-preserved
loop-b-preserved c = byte_more c.args.text.now c.loop-b.b-index c.loop-b-test.true c.loop-b.invariant c.put.ensures
