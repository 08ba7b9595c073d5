use mathlib.Core.Path.{sym}
use Rattle.script.proofs.Pages.{then}
use Rattle.runtext.specs.Text.{turns_text}
use Rattle.runtext.proofs.printing.put_turns.Goals as goal

pub returns-then-not-is_empty : goal.returns-then-not-is_empty
unfolding turns_text
returns-then-not-is_empty c =
    simp (sym c.is_empty.ensures, c.if-not-is_empty.true) (then c.word.ensures c.put_rows.ensures)
