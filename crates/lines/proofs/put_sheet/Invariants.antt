-- The loop keeps: the lines so far are written.
use Rattle.script.specs.Page.{Writes}
use Rattle.run.specs.Trace.{book_of}
use Rattle.lines.specs.Lines.{lines_text}
use Rattle.lines.proofs.put_sheet.Given as goal

abbrev pub invariant-loop-i : goal.invariant-loop-i
invariant-loop-i l = Writes l.initial.page l.page (lines_text l.table (book_of l.t l.row) l.i)
