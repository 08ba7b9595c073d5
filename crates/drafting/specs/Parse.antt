-- A text as a run file: the file's bytes, or the line and what was expected there. Assumes nothing.
use Rattle.std.specs.Prelude.{◌≡◌, cond, List, ◌++◌, ℕ, Result, Ok, Err, eqb, ltb, length, drop}
use Rattle.runfile.specs.Layout.{file_of}
use Rattle.runfile.specs.Writing.{file_length}
use Rattle.drafting.specs.declared.Complaint.{Complaint}
use Rattle.drafting.specs.Expected.{expected_number}
use Rattle.drafting.specs.Draft.{Drafted, lacking_at, call_made, turn_made}
use Rattle.drafting.specs.Scan.{no_scan, line_ended, run, given}

-- the text's last line ends where the text does
abbrev pub last_draft : List ℕ → Drafted
last_draft text = line_ended (run no_scan text)

abbrev pub made_in : (Drafted → Drafted → List ℕ) → List ℕ → List ℕ
made_in made text = given made no_scan text ++ made (run no_scan text).draft (last_draft text)

-- the call table and the turns that the text tells
unfoldable pub table_in : List ℕ → List ℕ
table_in text = made_in call_made text

unfoldable pub turns_in : List ℕ → List ℕ
turns_in text = made_in turn_made text

-- what was expected: 0 for a text that can be read
abbrev pub lacking : Drafted → ℕ
lacking d = cond (eqb d.expected 0) (lacking_at d.stage) d.expected

unfoldable pub file_in : List ℕ → List ℕ
file_in text = file_of (last_draft text).x (last_draft text).n (table_in text) (turns_in text)

abbrev pub length_in : List ℕ → ℕ
length_in text = file_length (table_in text) (turns_in text)

-- what parsing answers, in numbers: line and expected are 0 where the file was written, and len is its number of bytes
pub record Parsed : Type 0 where
  pub line : ℕ
  pub expected : ℕ
  pub len : ℕ

abbrev pub parsed : ℕ → ℕ → ℕ → Parsed
parsed line expected len = record { line = line; expected = expected; len = len }

abbrev pub parsed_numbers : Result ℕ Complaint → Parsed
parsed_numbers (Ok len) = parsed 0 0 len
parsed_numbers (Err c) = parsed c.line (expected_number c.expected) 0

-- the line, from 1, with what was expected there; line 0 with 14: lent buffer shorter than the file
unfoldable pub parse_of : List ℕ → ℕ → Parsed
parse_of text room =
    cond (eqb (lacking (last_draft text)) 0)
    (cond (ltb room (length_in text)) (parsed 0 14 0) (parsed 0 0 (length_in text)))
    (parsed (run no_scan text).line (lacking (last_draft text)) 0)

-- the buffer after the call: success changes only the bytes of the file, a refusal changes no lent byte
unfoldable pub parsed_on : List ℕ → List ℕ → List ℕ
parsed_on text out = cond (eqb (parse_of text (length out)).expected 0) (file_in text ++ drop (length_in text) out) out

-- the answer and the buffer that parsing hands back
pub record ParsedTo (text out : List ℕ) (answer : Parsed) (after : List ℕ) : Type 0 where
  pub answered : answer ≡ parse_of text (length out)
  pub left : after ≡ parsed_on text out
