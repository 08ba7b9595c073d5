use borrow.Author.Rules.{rules}
use Rattle.script.proofs.Pages.{then}
use Rattle.probing.specs.Text.{fault_text}
use Rattle.probing.proofs.texts.put_fault.Goals as goal

pub returns : goal.returns
unfolding fault_text
returns c = search (rules, then)
