use mathlib.Core.Path.{refl}
use Rattle.rules.specs.Row.{verdict}
use Rattle.rules.specs.Reason.{number_of, k_of}
use Rattle.rules.proofs.Reasons.{above}
use Rattle.std.proofs.lemmas.Result.{err_from_is_err_and}
use Rattle.runfile.proofs.Writes.{refuses, writes}
use Rattle.runfile.proofs.writing.write.Goals as goal

pub returns-in_err-writable : goal.returns-in_err-writable
returns-in_err-writable c =
    let a = c.args in
    let p = err_from_is_err_and c.from_residual.result c.from_residual.ensures.1 in
    let e = c.in_err-writable.field-0.0 in
    rw (p.1, p.2) (refuses a.x a.n a.table.now a.turns.now a.out.now (verdict (number_of e) (k_of e)) c.in_err-writable.ensures (above e))

pub returns : goal.returns
returns c =
    let a = c.args in
    writes a.x a.n a.table.now a.turns.now a.out.now (verdict 0 0) (rw c.in_ok-writable.was at c.writable.ensures) refl c.put_file.new.out c.put_file.ensures
