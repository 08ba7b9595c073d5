use borrow.Author.Tests.{ne_eqb}
use Rattle.script.proofs.Pages.{then}
use Rattle.runtext.specs.Text.{values_text}
use Rattle.runtext.proofs.printing.put_values.Goals as goal

pub returns-then-c-ne0 : goal.returns-then-c-ne0
unfolding values_text
returns-then-c-ne0 c =
    simp (ne_eqb _ _ c.if-c-ne0.true) (then (then (then c.put.ensures c.decimal.ensures) c.put-then-c-ne0.ensures) c.decimal-then-c-ne0.ensures)
