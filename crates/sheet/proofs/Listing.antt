-- The sheet of a run, from the row that its trace left. Assumes nothing.
use mathlib.Core.Path.{◌≡◌, refl, ◌∙◌, ap}
use mathlib.Core.List.{List, ◌++◌}
use Prim.Native.Nat.{ℕ, zero, suc, ◌≤◌}
use lib.ListN.{length, get_or}
use Rattle.run.specs.Book.{Book}
use Rattle.run.specs.Row.{by_call}
use Rattle.run.specs.Run.{Run}
use Rattle.run.specs.Trace.{row_of, trace_by, book_of}
use Rattle.run.proofs.Back.{Long, own_back, result_back, last_back, point_back, list_back}
use Rattle.lines.specs.Lines.{line_text, line_of, lines_text, last_text, sheet_text}

-- the lines tell of a book what it has by call, and its list
abbrev shown : Book → Book → Book
shown b other = record other { own = b.own; result = b.result; last = b.last; point = b.point; list = b.list }

same_lines : (table : List ℕ) (b other : Book) (i : ℕ) → lines_text table (shown b other) i ≡ lines_text table b i
unfolding lines_text
same_lines table b other zero = refl
same_lines table b other (suc i) = ap (λ l. l ++ line_text (line_of table b (suc i) (get_or b.list i 0))) (same_lines table b other i)

pub same_sheet : (calls : ℕ) (table : List ℕ) (r : Run) (rest : List ℕ) → Long r.book → length r.book.list ≤ by_call
    → sheet_text (trace_by calls r) table (book_of (trace_by calls r) (row_of r.book ++ rest)) ≡ sheet_text (trace_by calls r) table r.book
unfolding sheet_text
same_sheet calls table r rest long few =
    let t = trace_by calls r in
    let b = r.book in
    let other = book_of t (row_of b ++ rest) in
    let e : other ≡ shown b other =
    λ i. record other {
      own = own_back b long few rest i;
      result = result_back b long few rest i;
      last = last_back b long few rest i;
      point = point_back b long few rest i;
      list = list_back b long few rest i;
    } in
    ap (λ z. lines_text table z (length b.list) ++ last_text t) e ∙ ap (λ l. l ++ last_text t) (same_lines table b other (length b.list))
