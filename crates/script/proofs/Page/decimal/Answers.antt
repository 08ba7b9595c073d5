use Prim.Native.Nat.{◌-◌}
use lib.ListN.{set, take, drop}
use Rattle.script.specs.Decimal.{digit}
use Rattle.script.specs.Page.{Writes}
use Rattle.script.proofs.Decimals.{filled_more, filled_all}
use Rattle.script.proofs.Page.decimal.Goals as goal

pub loop-n-preserved : goal.loop-n-preserved
loop-n-preserved c = filled_more c.loop-n.invariant c.loop-n-test.true

pub returns : goal.returns
returns c =
    let l = c.loop-n in
    let written : Writes c.args.self.now c.word.new.self (take (10 - l.first) (drop l.first (set l.digits l.first (digit l.n)))) = c.word.ensures in
    rw (filled_all l.invariant c.loop-n-test.false) at written
