-- The loop keeps: the stations so far are written.
use lib.ListN.{get_or}
use Rattle.method.specs.Record.{resting}
use Rattle.script.specs.Page.{Writes}
use Rattle.probing.specs.Numbers.{station_numbers, rows}
use Rattle.probing.specs.Text.{spaced}
use Rattle.probing.proofs.texts.put_stations.Given as goal

abbrev pub invariant-loop-t : goal.invariant-loop-t
invariant-loop-t l = Writes l.initial.page l.page (spaced (rows (λ j. station_numbers (get_or l.stations j (resting 0))) l.t-index))
