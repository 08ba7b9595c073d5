-- A run as text: a starting value, a number of stations, a line for each call, and the turns in rows of twenty. Assumes nothing.
use Rattle.std.specs.Prelude.{◌≡◌, Bool, cond, ◌||◌, List, [], ◌∷◌, ◌++◌, ℕ, zero, suc, ◌+◌, ◌%◌, eqb, ltb, length, get_or, drop}
use Rattle.script.specs.Decimal.{decimal}
use Rattle.script.specs.Kind.{kind_word}
use Rattle.runfile.specs.declared.CallRecord.{CallRecord}
use Rattle.runfile.specs.Layout.{records, call_of}
use Rattle.runfile.specs.Reading.{read_of, table_of, turns_of}
use Rattle.rules.specs.Reason.{Numbers}
use Rattle.runtext.specs.Letters.{newline, space, start_word, stations_word, turns_word}

-- `start X` and `stations N`, a line each
unfoldable pub head_text : ℕ → ℕ → List ℕ
head_text x n =
    (start_word ++ (space ∷ [])) ++ decimal x ++ (newline ∷ stations_word ++ (space ∷ [])) ++ decimal n ++ (newline ∷ [])

-- a read has no values
unfoldable pub values_text : CallRecord → List ℕ
values_text c =
    cond (eqb c.kind 0) [] ((space ∷ []) ++ decimal c.a ++ (space ∷ []) ++ decimal c.b)

-- `S read`, `S set A B` or `S swap A B`
unfoldable pub call_text : CallRecord → List ℕ
call_text c = decimal c.station ++ (space ∷ []) ++ kind_word c.kind ++ values_text c ++ (newline ∷ [])

-- the lines of the first i calls
unfoldable pub calls_text : List ℕ → ℕ → List ℕ
calls_text table zero = []
calls_text table (suc i) = calls_text table i ++ call_text (call_of table (suc i))

-- a row ends after twenty turns, and after the last
abbrev pub row_ends : List ℕ → ℕ → Bool
row_ends turns i = eqb ((i + 1) % 20) 0 || eqb (i + 1) (length turns)

abbrev pub turn_text : List ℕ → ℕ → List ℕ
turn_text turns i = decimal (get_or turns i 0) ++ (cond (row_ends turns i) newline space ∷ [])

-- the first i turns
unfoldable pub rows_text : List ℕ → ℕ → List ℕ
rows_text turns zero = []
rows_text turns (suc i) = rows_text turns i ++ turn_text turns i

-- `turns` on a line of its own, if there are any, and then the rows
unfoldable pub turns_text : List ℕ → List ℕ
turns_text turns = cond (eqb (length turns) 0) [] ((turns_word ++ (newline ∷ [])) ++ rows_text turns (length turns))

unfoldable pub text_of : ℕ → ℕ → List ℕ → List ℕ → List ℕ
text_of x n table turns = head_text x n ++ calls_text table (records table) ++ turns_text turns

-- the text of a file that reads well
abbrev pub file_text : List ℕ → List ℕ
file_text file = text_of (read_of file).x (read_of file).n (table_of file) (turns_of file)

abbrev pub printed : ℕ → ℕ → ℕ → Numbers
printed refused k len = record { refused = refused; k = k; len = len }

-- the file's refusal with its K; then 14: lent buffer shorter than the text
unfoldable pub print_of : List ℕ → ℕ → Numbers
print_of file room =
    cond (eqb (read_of file).refused 0)
    (cond (ltb room (length (file_text file))) (printed 14 0 0) (printed 0 0 (length (file_text file))))
    (printed (read_of file).refused (read_of file).k 0)

-- the buffer after the call: success changes only the bytes of the text, a refusal changes no lent byte
unfoldable pub printed_on : List ℕ → List ℕ → List ℕ
printed_on file out =
    cond (eqb (print_of file (length out)).refused 0) (file_text file ++ drop (length (file_text file)) out) out

-- the answer and the buffer that printing hands back
pub record PrintedTo (file out : List ℕ) (answer : Numbers) (after : List ℕ) : Type 0 where
  pub answered : answer ≡ print_of file (length out)
  pub left : after ≡ printed_on file out
