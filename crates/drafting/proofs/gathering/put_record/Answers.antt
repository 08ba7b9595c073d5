use Rattle.runfile.specs.Layout.{record_bytes}
use Rattle.script.proofs.Pages.{then}
use Rattle.drafting.proofs.gathering.put_record.Goals as goal

pub returns : goal.returns
unfolding record_bytes
returns c = then (then (then (then c.little.ensures c.little-2.ensures) c.little-3.ensures) c.little-4.ensures) c.little-5.ensures
