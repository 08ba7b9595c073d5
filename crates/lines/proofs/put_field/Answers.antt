use borrow.Author.Rules.{rules}
use Rattle.script.proofs.Pages.{then}
use Rattle.lines.proofs.put_field.Goals as goal

pub returns : goal.returns
returns c = search (rules, then)
