use borrow.Author.Rules.{rules}
use Rattle.std.proofs.lemmas.Result.{err_from_is_err_and}
use Rattle.drafting.proofs.Parses.{complained, calls_end, moves_end, written_of, judged}
use Rattle.drafting.proofs.parsing.parse.Goals as goal

pub returns-in_err-d : goal.returns-in_err-d
returns-in_err-d c =
    let p = err_from_is_err_and c.from_residual.result c.from_residual.ensures.1 in
    rw (p.1, p.2) (complained _ _ _ c.in_err-d.ensures)

pub slice_bounds-table-end : goal.slice_bounds-table-end
slice_bounds-table-end c =
    let e = calls_end c.in_ok-d.ensures c.new-calls.ensures.place c.new-moves.ensures.place (search rules) (search rules) in
    search rules

pub slice_bounds-write-end : goal.slice_bounds-write-end
slice_bounds-write-end c =
    let e = calls_end c.in_ok-d.ensures c.new-calls.ensures.place c.new-moves.ensures.place (search rules) (search rules) in
    search rules

pub slice_bounds-turns-end : goal.slice_bounds-turns-end
slice_bounds-turns-end c =
    let e = moves_end c.in_ok-d.ensures c.new-calls.ensures.place c.new-moves.ensures.place (search rules) (search rules) in
    search rules

pub slice_bounds-write-end-2 : goal.slice_bounds-write-end-2
slice_bounds-write-end-2 c =
    let e = moves_end c.in_ok-d.ensures c.new-calls.ensures.place c.new-moves.ensures.place (search rules) (search rules) in
    search rules

pub returns : goal.returns
returns c =
    let t = c.in_ok-d.ensures in
    let w = written_of t c.new-calls.ensures.place c.new-moves.ensures.place (search rules) (search rules) (search rules) (search rules) c.write.ensures in
    judged _ _ t.whole _ _ w c.map_err.result (search rules)
