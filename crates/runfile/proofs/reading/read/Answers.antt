use native.Mathlib.Omega.{arith}
use Rattle.std.proofs.lemmas.Result.{err_from_is_err_and}
use Rattle.runfile.proofs.Answers.{refuses, gives}
use Rattle.runfile.proofs.reading.read.Goals as goal

pub returns-in_err-judged : goal.returns-in_err-judged
returns-in_err-judged c =
    let p = err_from_is_err_and c.from_residual.result c.from_residual.ensures.1 in
    rw (p.1, p.2) (refuses c.args.file.now (omega arith) (omega arith) c.trailer_at-z.result c.trailer_at-z.ensures c.in_err-judged.field-0.0 c.in_err-judged.ensures)

pub returns : goal.returns
returns c =
    gives c.args.file.now (omega arith) (omega arith) c.trailer_at-z.result c.trailer_at-z.ensures (rw c.in_ok-judged.was at c.judged.ensures)
