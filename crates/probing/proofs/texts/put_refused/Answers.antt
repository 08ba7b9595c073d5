use borrow.Author.Rules.{rules}
use Rattle.script.proofs.Pages.{then}
use Rattle.probing.specs.Text.{refused_text}
use Rattle.probing.proofs.texts.put_refused.Goals as goal

pub returns : goal.returns
unfolding refused_text
returns c = search (rules, then)
