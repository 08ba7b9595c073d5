use borrow.Author.Rules.{rules}
use Rattle.script.proofs.Pages.{then}
use Rattle.probing.specs.Text.{drawn_text}
use Rattle.probing.proofs.texts.put_drawn.Goals as goal

pub returns : goal.returns
unfolding drawn_text
returns c = search (rules, then)
