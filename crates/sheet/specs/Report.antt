-- Document 01, "Report": the report of a file, its refusals, and what is promised of it. Assumes nothing.
use Rattle.std.specs.Prelude.{◌≡◌, cond, List, ◌++◌, ℕ, ◌≤◌, eqb, ltb, length, drop, Result}
use Rattle.octets.specs.Bytes.{AllBytes}
use Rattle.runfile.specs.Reading.{read_of, table_of}
use Rattle.run.specs.Run.{Run}
use Rattle.run.specs.Drive.{run_of_file}
use Rattle.run.specs.Trace.{trace_by}
use Rattle.rules.specs.declared.Reason.{Reason}
use Rattle.rules.specs.Reason.{Numbers, numbers}
use Rattle.lines.specs.Lines.{sheet_text}

-- the sheet of a run of a table of so many calls
abbrev pub run_text : ℕ → List ℕ → Run → List ℕ
run_text calls table r = sheet_text (trace_by calls r) table r.book

-- the text of a file that reads well
unfoldable pub report_text : List ℕ → List ℕ
report_text file = run_text (read_of file).q (table_of file) (run_of_file file)

abbrev pub reported : ℕ → ℕ → ℕ → Numbers
reported refused k len = record { refused = refused; k = k; len = len }

-- the file's refusal with its K; then 14: lent buffer shorter than the text
unfoldable pub report_of : List ℕ → ℕ → Numbers
report_of file room =
    cond (eqb (read_of file).refused 0)
    (cond (ltb room (length (report_text file))) (reported 14 0 0) (reported 0 0 (length (report_text file))))
    (reported (read_of file).refused (read_of file).k 0)

-- the buffer after the call: success changes only the bytes of the text, a refusal changes no lent byte
unfoldable pub reported_on : List ℕ → List ℕ → List ℕ
reported_on file out =
    cond (eqb (report_of file (length out)).refused 0) (report_text file ++ drop (length (report_text file)) out) out

-- the answer and the buffer that the report hands back
pub record ReportedTo (file out : List ℕ) (answer : Numbers) (after : List ℕ) : Type 0 where
  pub answered : answer ≡ report_of file (length out)
  pub left : after ≡ reported_on file out

-- 14 is never given to a buffer of 40,960 bytes: a file is refused there as it is when it is read
unfoldable pub AlwaysEnough : Type 0
AlwaysEnough = (file : List ℕ) (room : ℕ) → AllBytes file → 40960 ≤ room → (report_of file room).refused ≡ (read_of file).refused

-- two answers with their buffers that the contract allows for one input are the same: of any numbers, and of what the numbers are of
pub record ReportSettled : Type 0 where
  pub by_numbers : (file out : List ℕ) (a b : Numbers) (c d : List ℕ) → ReportedTo file out a c → ReportedTo file out b d → (a ≡ b) × (c ≡ d)
  pub answers :
      (file out : List ℕ) (r s : Result ℕ Reason) (c d : List ℕ) → ReportedTo file out (numbers r) c → ReportedTo file out (numbers s) d → (r ≡ s) × (c ≡ d)
