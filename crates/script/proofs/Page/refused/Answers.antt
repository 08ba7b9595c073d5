use borrow.Author.Rules.{rules}
use Rattle.script.specs.Output.{refused_text}
use Rattle.script.proofs.Pages.{then}
use Rattle.script.proofs.Page.refused.Goals as goal

pub returns : goal.returns
unfolding refused_text
returns c = search (rules, then)
