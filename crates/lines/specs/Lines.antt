-- Document 01, "Report": a line for each listed call, and a last line. One space between fields, one newline after each line, decimal without leading zeros.
-- Assumes nothing.
use Rattle.std.specs.Prelude.{cond, not, List, [], ◌++◌, Option, None, Some, ℕ, zero, suc, eqb, get_or}
use Rattle.std.specs.Bool.{then_some}
use Rattle.script.specs.Quote.{quote}
use Rattle.script.specs.Decimal.{decimal}
use Rattle.script.specs.Kind.{kind_word}
use Rattle.runfile.specs.Layout.{call_of}
use Rattle.run.specs.declared.Trace.{Trace}
use Rattle.run.specs.Book.{Book}
use Rattle.lines.specs.declared.Line.{Line}

abbrev pub newline : List ℕ
newline = quote "\n"

-- a field and the space after it
abbrev pub spaced : List ℕ → List ℕ
spaced text = text ++ quote " "

abbrev pub spaced_number : ℕ → List ℕ
spaced_number x = spaced (decimal x)

-- true or false for set, a number for read and swap, `open` if not ended
unfoldable pub answered : ℕ → Option ℕ → List ℕ
answered kind None = quote "open"
answered kind (Some answer) = cond (eqb kind 1) (cond (eqb answer 0) (quote "false") (quote "true")) (decimal answer)

abbrev pub answer_word : Line → List ℕ
answer_word l = answered l.kind l.answer

-- list place, station, call number in the table, kind, answer, own turns so far, turn of its point
unfoldable pub line_text : Line → List ℕ
line_text l =
    spaced_number l.place ++ spaced_number l.station ++ spaced_number l.call ++ spaced (kind_word l.kind) ++ spaced (answer_word l) ++ spaced_number l.own ++ decimal l.point
    ++ newline

-- the line of call c at a place of the list, from the call table and the book; a call that has not ended has no last turn
abbrev pub line_of : List ℕ → Book → ℕ → ℕ → Line
line_of table b place c =
    record {
      place = place;
      station = (call_of table c).station;
      call = c;
      kind = (call_of table c).kind;
      answer = then_some (not (eqb (get_or b.last c 0) 0)) (get_or b.result c 0);
      own = get_or b.own c 0;
      point = get_or b.point c 0;
    }

-- the first i lines
unfoldable pub lines_text : List ℕ → Book → ℕ → List ℕ
lines_text table b zero = []
lines_text table b (suc i) = lines_text table b i ++ line_text (line_of table b (suc i) (get_or b.list i 0))

-- turns, idle turns, calls begun, calls ended, V.val, V.seq
unfoldable pub last_text : Trace → List ℕ
last_text t = spaced_number t.turns ++ spaced_number t.idle ++ spaced_number t.begun ++ spaced_number t.ended ++ spaced_number t.val ++ decimal t.seq ++ newline

unfoldable pub sheet_text : Trace → List ℕ → Book → List ℕ
sheet_text t table b = lines_text table b t.listed ++ last_text t
