use borrow.Author.Rules.{rules}
use Rattle.std.proofs.lemmas.Result.{err_from_is_err_and}
use Rattle.script.proofs.Pages.{blank}
use Rattle.drafting.specs.Scan.{run, given}
use Rattle.drafting.proofs.Fills.{with_line, one_more, refused_on}
use Rattle.drafting.proofs.gathering.gathered.Goals as goal

pub loop-i-init : goal.loop-i-init
unfolding run given
loop-i-init c = let f = c.fresh-s.ensures c.args.text.now in search (rules, blank)

pub returns-in_err-next : goal.returns-in_err-next
returns-in_err-next c =
    let p = err_from_is_err_and c.from_residual.result c.from_residual.ensures.1 in
    let m = with_line _ _ c.loop-i.s.line c.step.result c.map_err.result (search rules) c.step.ensures in
    rw (p.1, p.2) (refused_on _ _ _ c.loop-i-test.true c.loop-i.invariant (rw c.in_err-next.was at m))

pub loop-i-preserved : goal.loop-i-preserved
loop-i-preserved c =
    let m = with_line _ _ c.loop-i.s.line c.step.result c.map_err.result (search rules) c.step.ensures in
    let n = rw c.in_ok-next.was at m in
    one_more _ _ c.loop-i-test.true c.loop-i.invariant n.0 n.1 c.put_more.ensures
