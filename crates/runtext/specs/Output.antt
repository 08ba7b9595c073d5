-- What the program read_run writes of a file: its text on standard output, or the line of its refusal on standard error. Assumes nothing.
use Rattle.std.specs.Prelude.{◌≡◌, Bool, true, false, not, List, ℕ, ◌≤◌, eqb, length}
use Rattle.octets.specs.Bytes.{AllBytes}
use Rattle.script.specs.Output.{output_of, OutputTo}
use Rattle.runfile.specs.Reading.{read_of}
use Rattle.runtext.specs.declared.Outcome.{Outcome}
use Rattle.runtext.specs.declared.Outcome.TheVariants.{Text, Refusal}
use Rattle.runtext.specs.Text.{file_text, print_of}

-- with a buffer of room bytes
abbrev pub print_output : List ℕ → ℕ → List ℕ
print_output file room = output_of (print_of file room).refused (print_of file room).k (file_text file)

-- which of the two it is, and how many of its bytes are there
abbrev pub is_refusal : Outcome → Bool
is_refusal (Text len) = false
is_refusal (Refusal len) = true

abbrev pub shown : Outcome → ℕ
shown (Text len) = len
shown (Refusal len) = len

-- which of the two it is, and its bytes in the lent buffer
pub record PrintOutput (file out : List ℕ) (answer : Outcome) (after : List ℕ) : Type 0 where
  pub refused : is_refusal answer ≡ not (eqb (print_of file (length out)).refused 0)
  pub output : OutputTo (print_output file (length out)) out (shown answer) after

-- two answers with their buffers that the contract allows for one input are the same
unfoldable pub PrintOutputSettled : Type 0
PrintOutputSettled =
    (file out : List ℕ) (a b : Outcome) (c d : List ℕ) → PrintOutput file out a c → PrintOutput file out b d → (a ≡ b) × (c ≡ d)

-- in a buffer of 153,635 bytes the whole output has its place: the text of a file that reads well, or the line of the file's own refusal
pub record PrintOutputAt (file : List ℕ) (room : ℕ) : Type 0 where
  pub same : print_output file room ≡ output_of (read_of file).refused (read_of file).k (file_text file)
  pub fits : length (print_output file room) ≤ room

unfoldable pub PrintOutputWhole : Type 0
PrintOutputWhole = (file : List ℕ) (room : ℕ) → AllBytes file → 153635 ≤ room → PrintOutputAt file room
