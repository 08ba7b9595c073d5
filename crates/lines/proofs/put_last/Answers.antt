use borrow.Author.Rules.{rules}
use Rattle.script.proofs.Pages.{then}
use Rattle.lines.specs.Lines.{last_text}
use Rattle.lines.proofs.put_last.Goals as goal

pub returns : goal.returns
unfolding last_text
returns c = search (rules, then) depth 8
