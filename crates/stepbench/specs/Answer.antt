-- What each function for C answers: the answer of the room's own function, as a word, and the numbers that are read; and that
-- all of it comes out of the word again, within the header's bounds. Assumes nothing.
use Rattle.std.specs.Prelude.{◌≡◌, cond, List, ℕ, ◌-◌, ◌^◌, ◌≤◌, min, eqb, length}
use Rattle.octets.specs.Bytes.{AllBytes}
use Rattle.rules.specs.Limits.{turn_limit}
use Rattle.rules.specs.Reason.{Numbers}
use Rattle.sheet.specs.Report.{report_of}
use Rattle.runfile.specs.Reading.{longest, read_of}
use Rattle.runfile.specs.Writing.{write_of}
use Rattle.runtext.specs.Text.{print_of}
use Rattle.drafting.specs.Parse.{Parsed, parse_of}
use Rattle.stepbench.specs.Word.{packed_word, Apart}

-- the largest K that a word holds, 16,777,215
abbrev pub last_line : ℕ
last_line = 2 ^ 24 - 1

-- the header's STEPBENCH_REPORT_ROOM, STEPBENCH_TEXT_ROOM and STEPBENCH_FILE_ROOM
abbrev pub report_room : ℕ
report_room = 40960

abbrev pub text_room : ℕ
text_room = 153635

abbrev pub file_room : ℕ
file_room = longest

-- an answer that is a length, or its refusal
abbrev pub told_word : Numbers → ℕ
told_word r = packed_word r.refused r.k r.len

-- what was expected, and the line; one that does not fit is told as the largest that does
abbrev pub line_told : ℕ → ℕ
line_told line = min line last_line

abbrev pub parsed_word : Parsed → ℕ
parsed_word r = packed_word r.expected (line_told r.line) r.len

abbrev pub report_word : List ℕ → List ℕ → ℕ
report_word file out = told_word (report_of file (length out))

abbrev pub print_word : List ℕ → List ℕ → ℕ
print_word file out = told_word (print_of file (length out))

abbrev pub parse_word : List ℕ → List ℕ → ℕ
parse_word text out = parsed_word (parse_of text (length out))

abbrev pub write_word : ℕ → List ℕ → List ℕ → List ℕ → ℕ
write_word n table turns out = told_word (write_of n table turns (length out))

-- reading writes no bytes: its length is 0
abbrev pub read_word : List ℕ → ℕ
read_word file = packed_word (read_of file).refused (read_of file).k 0

-- a lent number afterwards: what was read, or as it was where the file is refused
abbrev pub number_left : List ℕ → ℕ → ℕ → ℕ
number_left file before number = cond (eqb (read_of file).refused 0) number before

abbrev pub x_left : List ℕ → ℕ → ℕ
x_left file before = number_left file before (read_of file).x

abbrev pub n_left : List ℕ → ℕ → ℕ
n_left file before = number_left file before (read_of file).n

abbrev pub q_left : List ℕ → ℕ → ℕ
q_left file before = number_left file before (read_of file).q

abbrev pub t_left : List ℕ → ℕ → ℕ
t_left file before = number_left file before (read_of file).t

-- of an answer: what was put into its word comes out of it, N is at most 14, K and the length are at most as large as said;
-- without a refusal K is 0, and with one the length is
pub record ComesApart (n k len mostK room : ℕ) : Type 0 where
  pub apart : Apart (packed_word n k len) n k len
  pub number : n ≤ 14
  pub which : k ≤ mostK
  pub bytes : len ≤ room
  pub no_k : n ≡ 0 → k ≡ 0
  pub no_bytes : (n ≡ 0 → ⊥) → len ≡ 0

pub record AnswersComeApart : Type 0 where
  pub report : (file : List ℕ) (room : ℕ) → AllBytes file
      → ComesApart (report_of file room).refused (report_of file room).k (report_of file room).len turn_limit report_room
  pub print : (file : List ℕ) (room : ℕ) → AllBytes file
      → ComesApart (print_of file room).refused (print_of file room).k (print_of file room).len turn_limit text_room
  pub parse : (text : List ℕ) (room : ℕ)
      → ComesApart (parse_of text room).expected (line_told (parse_of text room).line) (parse_of text room).len last_line file_room
  pub write : (n : ℕ) (table turns : List ℕ) (room : ℕ)
      → ComesApart (write_of n table turns room).refused (write_of n table turns room).k (write_of n table turns room).len turn_limit file_room
  pub read : (file : List ℕ) → ComesApart (read_of file).refused (read_of file).k 0 turn_limit 0
