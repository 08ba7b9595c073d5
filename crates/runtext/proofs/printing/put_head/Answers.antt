use borrow.Author.Rules.{rules}
use Rattle.script.proofs.Pages.{then}
use Rattle.runtext.specs.Text.{head_text}
use Rattle.runtext.proofs.printing.put_head.Goals as goal

pub returns : goal.returns
unfolding head_text
returns c = search (rules, then)
