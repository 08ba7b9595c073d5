-- The loop keeps: the turns so far are written.
use Rattle.script.specs.Page.{Writes}
use Rattle.runtext.specs.Text.{rows_text}
use Rattle.runtext.proofs.printing.put_rows.Given as goal

abbrev pub invariant-loop-i : goal.invariant-loop-i
invariant-loop-i l = Writes l.initial.page l.page (rows_text l.turns l.i)
