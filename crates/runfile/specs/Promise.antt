-- What is promised of run files: what is written reads back, what reads well is written back, refusals are given exactly when they hold, and the writer's contract settles all. Assumes nothing.
use Rattle.std.specs.Prelude.{◌≡◌, ◌↔◌, Bool, true, false, List, [], ◌++◌, ℕ, ◌+◌, ◌*◌, ◌-◌, ◌^◌, ◌<◌, ◌≤◌, length, take, drop, Result}
use Rattle.octets.specs.Bytes.{AllBytes}
use Rattle.rules.specs.Refusal.{refusal_of, holds_at, GivenExactly}
use Rattle.rules.specs.Row.{Row, refusals}
use Rattle.rules.specs.Reason.{Numbers, numbers}
use Rattle.rules.specs.declared.Reason.{Reason}
use Rattle.runfile.specs.First.{first_of}
use Rattle.runfile.specs.declared.CallRecord.{CallRecord}
use Rattle.runfile.specs.declared.Contents.{Contents}
use Rattle.runfile.specs.Layout.{call_record, zero_byte, record_bytes, records}
use Rattle.runfile.specs.Reading.{bad_call_at, bad_turn_at, trailer_at, table_by, turns_by, longest, read_rows, no_run, read_numbers, read_of, table_of, turns_of}
use Rattle.runfile.specs.Writing.{write_rows, wrote, write_of, Written}

-- the numbers of a call fit their fields
pub record Fitting (c : CallRecord) : Type 0 where
  pub station : c.station < 256 ^ 2
  pub kind : c.kind < 256 ^ 1
  pub a : c.a < 256 ^ 4
  pub b : c.b < 256 ^ 4

-- the bytes of a call tell the call, and twelve bytes of which the fourth is zero are those of the call that they tell
pub record CallsSpelled : Type 0 where
  pub told : (c : CallRecord) → Fitting c → (call_record (record_bytes c) ≡ c) × (zero_byte (record_bytes c) ≡ 0)
  pub again : (s : List ℕ) → AllBytes s → length s ≡ 12 → zero_byte s ≡ 0 → record_bytes (call_record s) ≡ s

-- a file holds x, n, this table and these turns
pub record Holds (file : List ℕ) (x n : ℕ) (table turns : List ℕ) : Type 0 where
  pub answer : read_of file ≡ record { refused = 0; k = 0; x = x; n = n; q = records table; t = length turns; start = 0; middle = length table }
  pub calls : table_of file ≡ table
  pub moves : turns_of file ≡ turns

-- what is read from a written file is what was written, for every input that the writer does not refuse
unfoldable pub WrittenReadsBack : Type 0
WrittenReadsBack =
    (x n : ℕ) (table turns out : List ℕ) (answer : Numbers) (after : List ℕ) → x < 2 ^ 32
    → Written x n table turns out answer after → answer.refused ≡ 0 → Holds (take answer.len after) x n table turns

-- success changes just the first 16 + t + 12q bytes of the buffer, a refusal changes none
pub record OnlyOutput (table turns out : List ℕ) (answer : Numbers) (after : List ℕ) : Type 0 where
  pub refused : (answer.refused ≡ 0 → ⊥) → after ≡ out
  pub len : answer.refused ≡ 0 → answer.len ≡ 16 + length turns + 12 * records table
  pub rest : answer.refused ≡ 0 → drop answer.len after ≡ drop answer.len out
  pub same : length after ≡ length out

unfoldable pub WritesOnlyOutput : Type 0
WritesOnlyOutput =
    (x n : ℕ) (table turns out : List ℕ) (answer : Numbers) (after : List ℕ)
    → Written x n table turns out answer after → OnlyOutput table turns out answer after

-- a file that reads well is, byte for byte, what the writer makes of what was read, given room
pub record WrittenAs (file out : List ℕ) (answer : Numbers) (after : List ℕ) : Type 0 where
  pub answered : answer ≡ wrote 0 0 (length file)
  pub left : after ≡ file ++ drop (length file) out

unfoldable pub ReadWritesBack : Type 0
ReadWritesBack =
    (file out : List ℕ) (answer : Numbers) (after : List ℕ) → AllBytes file → (read_of file).refused ≡ 0 → length file ≤ length out
    → Written (read_of file).x (read_of file).n (table_of file) (turns_of file) out answer after → WrittenAs file out answer after

-- 14 is never given to a buffer of as many bytes as the longest file has, 53,264
unfoldable pub WriterEnough : Type 0
WriterEnough = (n : ℕ) (table turns : List ℕ) (room : ℕ) → longest ≤ room → (write_of n table turns room).refused ≡ 14 → ⊥

-- k is the number, counted from 1, of the first of m at which p holds
pub record First (p : ℕ → Bool) (m k : ℕ) : Type 0 where
  pub some : 0 < k
  pub within : k ≤ m
  pub holds : p (k - 1) ≡ true
  pub before : (i : ℕ) → i < k - 1 → p i ≡ false

-- the search gives k exactly when k is the first, and 0 exactly when there is none
pub record Searched (p : ℕ → Bool) (m : ℕ) : Type 0 where
  pub found : (k : ℕ) → ((first_of p m ≡ k) × (0 < k)) ↔ First p m k
  pub none : (first_of p m ≡ 0) ↔ ((i : ℕ) → i < m → p i ≡ false)

-- a refusal is given exactly when its row says so; 7 and 8 do where a call or a turn is bad. K is the first such call for 7, the first such turn for 8, and 0 otherwise
pub record Exactly (rows : List Row) (refused k n : ℕ) (table turns : List ℕ) : Type 0 where
  pub number : refused ≡ refusal_of (refusals rows)
  pub exactly : GivenExactly (refusals rows)
  pub good_calls : (holds_at (refusals rows) 7 ≡ false) ↔ ((i : ℕ) → i < records table → bad_call_at n table i ≡ false)
  pub good_turns : (holds_at (refusals rows) 8 ≡ false) ↔ ((i : ℕ) → i < length turns → bad_turn_at n turns i ≡ false)
  pub call : refused ≡ 7 → First (bad_call_at n table) (records table) k
  pub turn : refused ≡ 8 → First (bad_turn_at n turns) (length turns) k
  pub other : (refused ≡ 7 → ⊥) → (refused ≡ 8 → ⊥) → k ≡ 0

-- a refused file has zero in its other numbers and empty parts
pub record Emptied (file : List ℕ) : Type 0 where
  pub numbers : read_of file ≡ no_run (read_of file).refused (read_of file).k
  pub calls : table_of file ≡ []
  pub moves : turns_of file ≡ []

-- the trailer of a file that reads well points back to the call table and to the turns
pub record PointsBack (file : List ℕ) : Type 0 where
  pub to_calls : (read_of file).start + (trailer_at file).first + 16 ≡ length file
  pub to_turns : (read_of file).middle + (trailer_at file).second + 16 ≡ length file

unfoldable pub TrailerPointsBack : Type 0
TrailerPointsBack = (file : List ℕ) → (read_of file).refused ≡ 0 → PointsBack file

pub record RefusedExactly : Type 0 where
  pub search : (p : ℕ → Bool) (m : ℕ) → Searched p m
  pub reader : (f : List ℕ) → Exactly (read_rows f) (read_of f).refused (read_of f).k (trailer_at f).n (table_by (trailer_at f) f) (turns_by (trailer_at f) f)
  pub emptied : (f : List ℕ) → ((read_of f).refused ≡ 0 → ⊥) → Emptied f
  pub writer : (n : ℕ) (table turns : List ℕ) (room : ℕ) → Exactly (write_rows n table turns room) (write_of n table turns room).refused (write_of n table turns room).k n table turns

-- two answers with their buffers that the writer's contract allows for one input are the same: of any numbers, and of what the numbers are of
pub record WriterSettled : Type 0 where
  pub by_numbers :
      (x n : ℕ) (table turns out : List ℕ) (answer answer' : Numbers) (after after' : List ℕ)
      → Written x n table turns out answer after → Written x n table turns out answer' after' → (answer ≡ answer') × (after ≡ after')
  pub answers :
      (x n : ℕ) (table turns out : List ℕ) (r s : Result ℕ Reason) (after after' : List ℕ)
      → Written x n table turns out (numbers r) after → Written x n table turns out (numbers s) after' → (r ≡ s) × (after ≡ after')

-- the numbers of the reader's answer tell the answer
unfoldable pub ReadsSettled : Type 0
ReadsSettled = (r s : Result Contents Reason) → read_numbers r ≡ read_numbers s → r ≡ s
