use borrow.Author.Rules.{rules}
use mathlib.Core.Path.{◌∙◌, sym}
use Rattle.probing.proofs.Goes.{closed_cut}
use Rattle.probing.proofs.feed.closed.Goals as goal

pub returns : goal.returns
returns c = closed_cut c.fed-f.ensures (sym c.is_cut.ensures ∙ c.if-not-is_cut.false) (search rules)
