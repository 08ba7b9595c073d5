use Rattle.script.proofs.Pages.{then}
use Rattle.probing.specs.Numbers.{numbers_of}
use Rattle.probing.specs.Text.{bench_text}
use Rattle.probing.proofs.Spaced.{then_numbers}
use Rattle.probing.proofs.texts.put_bench.Goals as goal

pub returns : goal.returns
unfolding bench_text numbers_of
returns c =
    then (then c.decimal.ensures (then_numbers _ _ c.put_numbers.ensures (then_numbers _ _ c.put_entries.ensures c.put_stations.ensures))) c.put.ensures
