use native.Mathlib.Omega.{arith}
use lib.ListN.{get_or}
use Rattle.method.specs.Record.{resting}
use Rattle.script.proofs.Pages.{blank}
use Rattle.probing.specs.Numbers.{station_numbers, rows}
use Rattle.probing.specs.Text.{spaced}
use Rattle.probing.proofs.Spaced.{row_more}
use Rattle.probing.proofs.texts.put_stations.Goals as goal

pub loop-t-init : goal.loop-t-init
unfolding spaced rows
loop-t-init c = blank _ (omega arith)

pub loop-t-preserved : goal.loop-t-preserved
loop-t-preserved c =
    row_more (λ j. station_numbers (get_or c.args.stations.now j (resting 0))) _ c.loop-t.invariant c.put_station.ensures
