-- The run is made in the front of the row.
use mathlib.Core.Path.{◌≡◌, ◌∙◌, sym, ap}
use Prim.Native.Nat.{ℕ, ◌<◌}
use lib.ListN.{length, get_or}
use lib.Seq.{length-take-le}
use borrow.Author.Rules.{rules}
use Rattle.std.proofs.lemmas.Result.{err_from_is_err_and}
use Rattle.run.specs.Row.{row_places, zero_row}
use Rattle.run.proofs.Traces.{all_zeros, refused, long_enough}
use Rattle.run.proofs.tracing.traced.Goals as goal

pub returns-in_err-contents : goal.returns-in_err-contents
returns-in_err-contents c =
    let p = err_from_is_err_and c.from_residual.result c.from_residual.ensures.1 in
    rw (p.1, p.2) (refused c.args.file.now c.args.row.now c.in_err-contents.field-0.0 c.in_err-contents.ensures)

-- the front is filled with zeros
pub ran-requires : goal.ran-requires
unfolding zero_row
ran-requires c =
    let long : length c.fill.new.self ≡ row_places = c.fill.ensures.len ∙ length-take-le row_places c.args.row.now c.if-row-lt-PLACES.false in
    let zero : (k : ℕ) → k < row_places → get_or c.fill.new.self k 0 ≡ 0 = search rules in
    (all_zeros c.fill.new.self row_places long zero, c.in_ok-contents.ensures)

pub returns : goal.returns
returns c = long_enough c.args.file.now c.args.row.now c.ran.result c.ran.new.row (sym (ap (λ r. r.refused) c.in_ok-contents.ensures)) c.if-row-lt-PLACES.false c.ran.ensures
