use borrow.Author.Rules.{rules}
use Rattle.script.proofs.Pages.{then}
use Rattle.runtext.specs.Text.{text_of}
use Rattle.runtext.proofs.printing.put_text.Goals as goal

pub returns : goal.returns
unfolding text_of
returns c = let w = then (then c.put_head.ensures c.put_calls.ensures) c.put_turns.ensures in search rules
