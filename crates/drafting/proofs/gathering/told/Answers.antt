use borrow.Author.Rules.{rules}
use Rattle.drafting.proofs.Fills.{with_line, told}
use Rattle.drafting.proofs.gathering.told.Goals as goal

pub returns : goal.returns
returns c =
    let m = with_line _ _ c.in_ok-s.s.line c.at_end.result c.map_err.result (search rules) c.at_end.ensures in
    told _ _ c.in_ok-s.ensures _ (rw c.in_ok-d.was at m) c.put_more.ensures
