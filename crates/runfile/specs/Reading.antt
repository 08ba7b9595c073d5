-- Document 01, "Numbered refusals" for run files: the rows that reader and writer share, and what is read of a file. Assumes nothing.
use Rattle.std.specs.Prelude.{Bool, cond, not, ◌&&◌, ◌||◌, List, [], ◌∷◌, ◌++◌, ℕ, ◌+◌, ◌*◌, ◌-◌, eqb, ltb, length, get_or, Result, Ok, Err}
use Rattle.rules.specs.Limits.{station_limit, call_limit, turn_limit, bad_station}
use Rattle.rules.specs.Row.{Verdict, Row, row, verdict_of}
use Rattle.rules.specs.Reason.{number_of, k_of}
use Rattle.rules.specs.declared.Reason.{Reason}
use Rattle.runfile.specs.declared.Contents.{Contents}
use Rattle.runfile.specs.declared.Trailer.{Trailer}
use Rattle.runfile.specs.First.{first_of}
use Rattle.runfile.specs.Layout.{part, field, zero_byte, records, call_bytes, trailer_of}

-- 7: a call with bad station, kind, zero byte or read values. A read has a = b = 0
unfoldable pub bad_call : ℕ → List ℕ → Bool
bad_call n s =
    bad_station n (field s 0 2)
    || (ltb 2 (field s 2 1)
    || (not (eqb (zero_byte s) 0)
    || (eqb (field s 2 1) 0 && (not (eqb (field s 4 4) 0) || not (eqb (field s 8 4) 0)))))

abbrev pub bad_call_at : ℕ → List ℕ → ℕ → Bool
bad_call_at n table i = bad_call n (call_bytes table i)

-- 8: a turn of 0 or over n
abbrev pub bad_turn_at : ℕ → List ℕ → ℕ → Bool
bad_turn_at n turns i = bad_station n (get_or turns i 0)

-- the first such call, and the first such turn
unfoldable pub first_call : ℕ → List ℕ → ℕ
first_call n table = first_of (bad_call_at n table) (records table)

unfoldable pub first_turn : ℕ → List ℕ → ℕ
first_turn n turns = first_of (bad_turn_at n turns) (length turns)

-- 3: n is 0 or over 32; 4: q over 1,024; 5: t over 40,960; 6: lengths disagree
abbrev pub limit_rows : ℕ → ℕ → ℕ → Bool → List Row
limit_rows n q t agree =
    row 3 (eqb n 0 || ltb station_limit n) 0 ∷ row 4 (ltb call_limit q) 0 ∷ row 5 (ltb turn_limit t) 0 ∷ row 6 (not agree) 0 ∷ []

-- 7 and 8 hold where there is a first such call or turn, which is their K
abbrev pub part_rows : ℕ → List ℕ → List ℕ → List Row
part_rows n table turns =
    row 7 (ltb 0 (first_call n table)) (first_call n table) ∷ row 8 (ltb 0 (first_turn n turns)) (first_turn n turns) ∷ []

abbrev pub trailer_at : List ℕ → Trailer
trailer_at f = trailer_of (part f (length f - 16) 16)

-- the second distance is the number of turns t
abbrev pub turn_count : Trailer → ℕ
turn_count z = z.second

-- the first distance is t + 12q; the file is exactly 16 + t + 12q bytes. Over whole numbers: no sum wraps
abbrev pub agrees : ℕ → Trailer → Bool
agrees len z = eqb z.first (turn_count z + 12 * z.q) && eqb len (16 + z.first)

-- the parts that the trailer's numbers name
abbrev pub table_by : Trailer → List ℕ → List ℕ
table_by z f = part f 0 (12 * z.q)

abbrev pub turns_by : Trailer → List ℕ → List ℕ
turns_by z f = part f (12 * z.q) (turn_count z)

-- 3 to 6 of the numbers in a trailer, 7 and 8 of the parts that they name
abbrev pub number_rows : List ℕ → Trailer → List Row
number_rows f z = limit_rows z.n z.q (turn_count z) (agrees (length f) z)

abbrev pub content_rows : List ℕ → Trailer → List Row
content_rows f z = part_rows z.n (table_by z f) (turns_by z f)

-- 2: form not 1; then 3 to 8
abbrev pub trailer_rows : List ℕ → Trailer → List Row
trailer_rows f z = row 2 (not (eqb z.form 1)) 0 ∷ number_rows f z ++ content_rows f z

-- the longest file: 53,264 bytes
abbrev pub longest : ℕ
longest = 16 + turn_limit + 12 * call_limit

-- 1: file under 16 or over 53,264 bytes; then 2 to 8
abbrev pub bad_length : List ℕ → Bool
bad_length f = ltb (length f) 16 || ltb longest (length f)

abbrev pub read_rows : List ℕ → List Row
read_rows f = row 1 (bad_length f) 0 ∷ trailer_rows f (trailer_at f)

-- the numbers of what is read of a file. The call table starts at start, the turns at middle
pub record ReadAnswer : Type 0 where
  pub refused : ℕ
  pub k : ℕ
  pub x : ℕ
  pub n : ℕ
  pub q : ℕ
  pub t : ℕ
  pub start : ℕ
  pub middle : ℕ

-- a refused answer has zero in its other numbers
abbrev pub no_run : ℕ → ℕ → ReadAnswer
no_run refused k = record { refused = refused; k = k; x = 0; n = 0; q = 0; t = 0; start = 0; middle = 0 }

-- the call table stands at the front, the turns after it
abbrev pub run_by : Trailer → ReadAnswer
run_by z = record { refused = 0; k = 0; x = z.x; n = z.n; q = z.q; t = turn_count z; start = 0; middle = 12 * z.q }

-- the numbers of the reader's answer, a run or the reason why it is refused
abbrev pub read_numbers : Result Contents Reason → ReadAnswer
read_numbers (Ok r) = record { refused = 0; k = 0; x = r.x; n = r.n; q = r.q; t = r.t; start = r.start; middle = r.middle }
read_numbers (Err e) = no_run (number_of e) (k_of e)

abbrev pub read_by : Trailer → Verdict → ReadAnswer
read_by z v = cond (eqb v.refused 0) (run_by z) (no_run v.refused v.k)

unfoldable pub read_of : List ℕ → ReadAnswer
read_of f = read_by (trailer_at f) (verdict_of (read_rows f))

-- the call table and the turns of a file, empty for a refused one, whose numbers are zero
abbrev pub table_of : List ℕ → List ℕ
table_of f = part f (read_of f).start (12 * (read_of f).q)

abbrev pub turns_of : List ℕ → List ℕ
turns_of f = part f (read_of f).middle (read_of f).t
