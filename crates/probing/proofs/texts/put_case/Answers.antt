use Rattle.script.proofs.Pages.{then}
use Rattle.probing.proofs.Cases.{case_written}
use Rattle.probing.proofs.texts.put_case.Goals as goal

pub returns : goal.returns
returns c =
    let e = case_written c.args.row.now _ _ _ c.turn-x.result c.sound.result c.bench_of-w.ensures c.cell.ensures c.call_from.ensures c.turn-x.ensures c.sound.ensures in
    rw (← e) (then (then (then c.put_sound.ensures c.put_answer.ensures) c.put_bench.ensures) c.put_picture.ensures)
