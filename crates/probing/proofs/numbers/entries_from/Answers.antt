use borrow.Author.Rules.{rules}
use Prim.Native.Nat.{◌+◌, ◌*◌}
use Rattle.card.specs.Register.{halves}
use Rattle.probing.specs.Numbers.{halves_from}
use Rattle.probing.proofs.Filled.{each_given}
use Rattle.probing.proofs.numbers.entries_from.Goals as goal

pub returns : goal.returns
returns c =
    each_given _ _ (λ i. halves_from c.args.row.now (c.args.from + 4 * i)) (λ i x q k. search rules) _ (halves 0 0) 33 c.from_fn.ensures.items
