use mathlib.Core.Path.{◌∙◌, sym}
use native.Mathlib.Omega.{arith}
use lib.ListN.{length}
use Rattle.octets.proofs.Bytes.{one_more, all_there}
use Rattle.octets.proofs.store.Goals as goal

pub loop-b-preserved : goal.loop-b-preserved
loop-b-preserved c =
    let l = c.loop-b in
    l.invariant ∙ one_more (length c.args.out.now) l.out l.b-index l.y (omega arith) (omega arith)

pub returns : goal.returns
returns c =
    let l = c.loop-b in
    sym (l.invariant ∙ all_there (length c.args.out.now) l.out l.b-index l.y (omega arith) (omega arith))
