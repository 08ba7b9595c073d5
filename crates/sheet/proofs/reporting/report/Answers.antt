-- The row is long enough, so the trace is the file's refusal or its run.
use mathlib.Core.Path.{refl}
use native.Mathlib.Omega.{arith}
use Rattle.rules.proofs.Reasons.{above}
use Rattle.std.proofs.lemmas.Result.{err_from_is_err_and}
use Rattle.sheet.proofs.Reports.{refused, within, at_most, too_long, in_place}
use Rattle.sheet.proofs.reporting.report.Goals as goal

pub returns-in_err-t : goal.returns-in_err-t
returns-in_err-t c =
    let a = c.args in
    let p = err_from_is_err_and c.from_residual.result c.from_residual.ensures.1 in
    rw (p.1, p.2) (refused a.file.now a.out.now _ _ _ refl c.in_err-t.ensures (above c.in_err-t.field-0.0))

pub overflow_mul-t : goal.overflow_mul-t
overflow_mul-t c = record { fits = omega (arith, within c.args.file.now _ _ _ refl c.in_ok-t.ensures) }

pub has_room-requires : goal.has_room-requires
has_room-requires c =
    at_most c.args.file.now _ _ _ refl c.in_ok-t.ensures (λ i. (c.type_inv.file i).fits) _ c.part-table.ensures

pub returns-then-not-has_room : goal.returns-then-not-has_room
returns-then-not-has_room c =
    let a = c.args in
    too_long a.file.now _ _ _ refl c.in_ok-t.ensures (λ i. (c.type_inv.file i).fits) _ c.part-table.ensures a.out.now c.if-not-has_room.ensures

pub returns : goal.returns
returns c =
    let a = c.args in
    in_place a.file.now _ _ _ refl c.in_ok-t.ensures (λ i. (c.type_inv.file i).fits) _ c.part-table.ensures a.out.now c.if-not-has_room.ensures c.put_sheet.ensures
