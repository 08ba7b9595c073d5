use borrow.Author.Rules.{rules}
use Rattle.script.proofs.Pages.{then}
use Rattle.probing.specs.Text.{ended_text}
use Rattle.probing.proofs.texts.put_ended.Goals as goal

pub returns : goal.returns
unfolding ended_text
returns c = search (rules, then)
