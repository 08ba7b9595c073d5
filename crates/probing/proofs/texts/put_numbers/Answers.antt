use native.Mathlib.Omega.{arith}
use Rattle.script.proofs.Pages.{then}
use Rattle.probing.proofs.Spaced.{number_more}
use Rattle.probing.proofs.texts.put_numbers.Goals as goal

pub loop-x-preserved : goal.loop-x-preserved
loop-x-preserved c =
    number_more c.args.numbers.now _ (omega arith) c.loop-x.invariant (then c.put.ensures c.decimal.ensures)
