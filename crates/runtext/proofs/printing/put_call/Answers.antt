use borrow.Author.Rules.{rules}
use Rattle.script.proofs.Pages.{then}
use Rattle.runtext.specs.Text.{call_text}
use Rattle.runtext.proofs.printing.put_call.Goals as goal

pub returns : goal.returns
unfolding call_text
returns c = search (rules, then)
