use mathlib.Core.Path.{◌≡◌, ◌∙◌, sym}
use native.Mathlib.Omega.{arith}
use native.Mathlib.Numerals.{add-one}
use lib.ListN.{get_or}
use lib.Seq.{get_or-take}
use Rattle.std.proofs.Common.{rules}
use Rattle.script.proofs.Pages.{then, blank}
use Rattle.run.specs.Row.{list_part, start_of, size_of, part_of}
use Rattle.run.specs.Trace.{book_of}
use Rattle.lines.specs.Lines.{lines_text, sheet_text}
use Rattle.lines.proofs.put_sheet.Goals as goal

pub loop-i-init : goal.loop-i-init
unfolding lines_text
loop-i-init c = blank _ (omega arith)

-- the call of the row's list is the book's, and its line is one more
pub loop-i-preserved : goal.loop-i-preserved
unfolding lines_text start_of size_of part_of
loop-i-preserved c =
    let a = c.args in
    let l = c.loop-i in
    let call : c.cell-c.result ≡ get_or (book_of a.t a.row.now).list l.i 0 =
    c.cell-c.ensures ∙ sym (get_or-take a.t.listed (part_of a.row.now list_part) l.i 0 (omega arith)) in
    rw add-one (then l.invariant (rw (c.line_of.ensures a.t, call, add-one) at c.put_line.ensures))

pub returns : goal.returns
unfolding sheet_text
returns c =
    let e : c.loop-i.i ≡ c.args.t.listed = omega arith in
    let w = then (rw e at c.loop-i.invariant) c.put_last.ensures in
    search rules
