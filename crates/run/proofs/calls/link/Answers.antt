use mathlib.Core.Path.{ap}
use Rattle.run.proofs.Links.{unlinked_in, linked_row_lem}
use Rattle.run.proofs.calls.link.Goals as goal

pub loop-c-init : goal.loop-c-init
loop-c-init c = unlinked_in c.args.table.now c.args.row.now c.requires.0

pub loop-c-preserved : goal.loop-c-preserved
loop-c-preserved c =
    let l = c.loop-c in
    rw (ap (λ r. r.station) c.call_at.ensures)
    (linked_row_lem c.args.table.now l.row l.c c.loop-c-test.true l.auto.c c.requires.1.0 (c.requires.1.1 l.c) l.invariant)
