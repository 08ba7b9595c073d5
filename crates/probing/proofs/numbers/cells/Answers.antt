use borrow.Author.Rules.{rules}
use Prim.Native.Nat.{◌+◌}
use lib.ListN.{get_or}
use Rattle.probing.proofs.Filled.{each_given}
use Rattle.probing.proofs.numbers.cells.Goals as goal

pub returns : goal.returns
returns g c =
    each_given _ _ (λ i. get_or c.args.row.now (c.args.at + i) 0) (λ i x q k. search rules) _ 0 _ c.from_fn.ensures.items
