-- The loop keeps: the lines of the calls so far are written.
use Rattle.script.specs.Page.{Writes}
use Rattle.runtext.specs.Text.{calls_text}
use Rattle.runtext.proofs.printing.put_calls.Given as goal

abbrev pub invariant-loop-i : goal.invariant-loop-i
invariant-loop-i l = Writes l.initial.page l.page (calls_text l.table l.i)
