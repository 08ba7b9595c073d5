-- The trace of a run, as the rooms above have it: the run's numbers, and its book in a row that the caller lends. Assumes nothing.
use Rattle.std.specs.Prelude.{◌≡◌, cond, List, ◌++◌, ℕ, ◌+◌, ◌-◌, eqb, ltb, length, replicate, drop, Result, Ok, Err}
use Rattle.rules.specs.declared.Reason.{Reason}
use Rattle.rules.specs.Reason.{number_of, k_of}
use Rattle.runfile.specs.Reading.{read_of}
use Rattle.run.specs.declared.Tally.{Tally}
use Rattle.run.specs.declared.Trace.{Trace}
use Rattle.run.specs.Book.{Book}
use Rattle.run.specs.Row.{list_part, start_of, row_places, book_in}
use Rattle.run.specs.Run.{Run}
use Rattle.run.specs.Drive.{run_of_file}

-- a book as a row: own turns, answers, last turns and points by call, the list, and zeros after it, in the loop's own parts too
unfoldable pub row_of : Book → List ℕ
row_of b =
    b.own ++ b.result ++ b.last ++ b.point ++ b.list ++ replicate (row_places - (start_of list_part + length b.list)) 0

-- the numbers of a trace that is refused or not
pub record TraceNumbers : Type 0 where
  pub refused : ℕ
  pub k : ℕ
  pub calls : ℕ
  pub turns : ℕ
  pub idle : ℕ
  pub begun : ℕ
  pub ended : ℕ
  pub listed : ℕ
  pub val : ℕ
  pub seq : ℕ

-- a refused trace has zero in its other numbers
abbrev pub no_trace : ℕ → ℕ → TraceNumbers
no_trace refused k = record { refused = refused; k = k; calls = 0; turns = 0; idle = 0; begun = 0; ended = 0; listed = 0; val = 0; seq = 0 }

-- of a table of so many calls
abbrev pub trace_by : ℕ → Run → Trace
trace_by calls r =
    record {
      calls = calls;
      turns = r.turns;
      idle = r.book.idle;
      begun = r.book.begun;
      ended = r.book.ended;
      listed = length r.book.list;
      val = r.bench.v.second;
      seq = r.bench.v.first;
    }

-- a trace that is not refused
abbrev pub given_trace : Trace → TraceNumbers
given_trace t =
    record {
      refused = 0;
      k = 0;
      calls = t.calls;
      turns = t.turns;
      idle = t.idle;
      begun = t.begun;
      ended = t.ended;
      listed = t.listed;
      val = t.val;
      seq = t.seq;
    }

abbrev pub trace_numbers : Result Trace Reason → TraceNumbers
trace_numbers (Ok t) = given_trace t
trace_numbers (Err e) = no_trace (number_of e) (k_of e)

-- the file's refusal with its K; then 14: a row of so many places is shorter than the book
unfoldable pub trace_of : List ℕ → ℕ → TraceNumbers
trace_of file room =
    cond (eqb (read_of file).refused 0) (cond (ltb room row_places) (no_trace 14 0) (given_trace (trace_by (read_of file).q (run_of_file file))))
    (no_trace (read_of file).refused (read_of file).k)

-- the front of a row that is lent becomes the run's book; a refusal leaves the row as it was
abbrev pub traced_on : TraceNumbers → Book → List ℕ → List ℕ
traced_on r b row = cond (eqb r.refused 0) (row_of b ++ drop row_places row) row

-- the run's numbers, and its book in the row
pub record TracedTo (file row : List ℕ) (r : TraceNumbers) (row' : List ℕ) : Type 0 where
  pub answered : r ≡ trace_of file (length row)
  pub left : row' ≡ traced_on r (run_of_file file).book row

-- the same of a file that reads well and a row that is just long enough
pub record RanTo (file : List ℕ) (r : Trace) (row' : List ℕ) : Type 0 where
  pub answered : r ≡ trace_by (read_of file).q (run_of_file file)
  pub left : row' ≡ row_of (run_of_file file).book

-- the counts of a trace, and the book that it tells with its row
abbrev pub tally_of : Trace → Tally
tally_of t = record { idle = t.idle; begun = t.begun; ended = t.ended; listed = t.listed }

abbrev pub book_of : Trace → List ℕ → Book
book_of t row = book_in row (tally_of t)
