-- Document 01, "Report": what the report program writes of a file, its report or the line of its refusal. Assumes nothing.
use Rattle.std.specs.Prelude.{◌≡◌, List, ℕ, ◌≤◌, length}
use Rattle.octets.specs.Bytes.{AllBytes}
use Rattle.script.specs.Output.{output_of}
use Rattle.runfile.specs.Reading.{read_of}
use Rattle.sheet.specs.Report.{report_text, report_of}

-- with a buffer of room bytes
abbrev pub report_output : List ℕ → ℕ → List ℕ
report_output file room = output_of (report_of file room).refused (report_of file room).k (report_text file)

-- in a buffer of 40,960 bytes the whole output has its place: the report of a file that reads well, or the line of the file's own
-- refusal
pub record ReportOutputAt (file : List ℕ) (room : ℕ) : Type 0 where
  pub same : report_output file room ≡ output_of (read_of file).refused (read_of file).k (report_text file)
  pub fits : length (report_output file room) ≤ room

unfoldable pub ReportOutputWhole : Type 0
ReportOutputWhole = (file : List ℕ) (room : ℕ) → AllBytes file → 40960 ≤ room → ReportOutputAt file room
