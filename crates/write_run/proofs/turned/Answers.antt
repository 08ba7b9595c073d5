use borrow.Author.Rules.{rules}
use Rattle.drafting.proofs.Parses.{ends_within}
use Rattle.messages.proofs.Short.{short}
use Rattle.write_run.proofs.turned.Goals as goal

pub prove-unreachable-requires : goal.prove-unreachable-requires
prove-unreachable-requires g c = let e = ends_within _ _ _ _ c.in-Ok.ensures in search rules

pub prove-unreachable-requires-in-Err : goal.prove-unreachable-requires-in-Err
prove-unreachable-requires-in-Err g c =
    let k = short c.in-Err.complaint in
    let a = c.complain-len.ensures.after in
    let n = c.number.ensures in
    search rules
