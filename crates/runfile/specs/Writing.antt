-- Document 01, "Numbered refusals", the writer: x, n, a call table and turns, and what it leaves in the lent buffer. Assumes nothing.
use Rattle.std.specs.Prelude.{◌≡◌, cond, List, [], ◌∷◌, ◌++◌, ℕ, ◌+◌, ◌%◌, eqb, ltb, length, drop}
use Rattle.rules.specs.Row.{Verdict, Row, row, verdict_of}
use Rattle.rules.specs.Reason.{Numbers}
use Rattle.runfile.specs.Layout.{records, file_of}
use Rattle.runfile.specs.Reading.{limit_rows, part_rows}

-- the bytes of the file: 16 + t + 12q
abbrev pub file_length : List ℕ → List ℕ → ℕ
file_length table turns = 16 + length turns + length table

-- 3, 4 (whole records counted), 5, 6 (table length no multiple of 12)
abbrev pub length_rows : ℕ → List ℕ → List ℕ → List Row
length_rows n table turns = limit_rows n (records table) (length turns) (eqb (length table % 12) 0)

-- 14: lent buffer shorter than the output
abbrev pub room_rows : List ℕ → List ℕ → ℕ → List Row
room_rows table turns room = row 14 (ltb room (file_length table turns)) 0 ∷ []

-- 3, 4, 5, 6, 7, 8, 14
abbrev pub write_rows : ℕ → List ℕ → List ℕ → ℕ → List Row
write_rows n table turns room = length_rows n table turns ++ (part_rows n table turns ++ room_rows table turns room)

abbrev pub wrote : ℕ → ℕ → ℕ → Numbers
wrote refused k len = record { refused = refused; k = k; len = len }

abbrev pub write_by : Verdict → ℕ → Numbers
write_by v len = cond (eqb v.refused 0) (wrote 0 0 len) (wrote v.refused v.k 0)

-- what a lent buffer of room bytes gets for an answer
unfoldable pub write_of : ℕ → List ℕ → List ℕ → ℕ → Numbers
write_of n table turns room = write_by (verdict_of (write_rows n table turns room)) (file_length table turns)

-- the buffer after the call: success changes only the bytes of the output, a refusal changes no lent byte
unfoldable pub out_of : ℕ → ℕ → List ℕ → List ℕ → List ℕ → List ℕ
out_of x n table turns out =
    cond (eqb (write_of n table turns (length out)).refused 0)
    (file_of x n table turns ++ drop (file_length table turns) out) out

-- the answer and the buffer that the writer hands back
pub record Written (x n : ℕ) (table turns out : List ℕ) (answer : Numbers) (after : List ℕ) : Type 0 where
  pub answered : answer ≡ write_of n table turns (length out)
  pub left : after ≡ out_of x n table turns out
