use mathlib.Core.Path.{refl}
use Rattle.std.proofs.lemmas.Result.{err_from_is_err_and}
use Rattle.rules.proofs.Reasons.{above}
use Rattle.runtext.proofs.Prints.{refused, short, written}
use Rattle.runtext.proofs.printing.print.Goals as goal

pub returns-in_err-r : goal.returns-in_err-r
returns-in_err-r c =
    let p = err_from_is_err_and c.from_residual.result c.from_residual.ensures.1 in
    rw (p.1, p.2) (refused c.args.file.now c.args.out.now _ c.in_err-r.ensures (above c.in_err-r.field-0.0))

pub returns-then-out-len : goal.returns-then-out-len
returns-then-out-len c =
    short c.args.file.now c.args.out.now _ c.in_ok-r.ensures (λ i. (c.type_inv.file i).fits) refl _ _ c.table-table.ensures c.turns-turns.ensures c.put_text-len.ensures c.if-out-len.true

pub returns : goal.returns
returns c =
    written c.args.file.now c.args.out.now _ c.in_ok-r.ensures (λ i. (c.type_inv.file i).fits) refl _ _ c.table-table.ensures c.turns-turns.ensures c.put_text-len.ensures c.if-out-len.false c.put_text.ensures
