use borrow.Author.Rules.{rules}
use Rattle.method.specs.Record.{resting}
use Rattle.probing.specs.Numbers.{place_at, station_from}
use Rattle.probing.proofs.Filled.{each_given}
use Rattle.probing.proofs.numbers.stations_from.Goals as goal

pub returns : goal.returns
returns c =
    each_given _ _ (λ i. station_from c.args.row.now (place_at i)) (λ i x q k. search rules) _ (resting 0) 33 c.from_fn.ensures.items
