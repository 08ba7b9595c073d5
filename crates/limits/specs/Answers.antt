-- Document 01, "Run file", "No run can reach refusal 12 or 13": the answers of a file's run, turn by turn, and that none is a refusal. Assumes nothing.
use Rattle.std.specs.Prelude.{◌≡◌, List, ℕ, ◌<◌, length, get_or, take}
use Rattle.octets.specs.Bytes.{AllBytes}
use Rattle.runfile.specs.Reading.{read_of, table_of, turns_of}
use Rattle.method.specs.declared.Answer.{Answer}
use Rattle.method.specs.Record.{told}
use Rattle.bench.specs.Promise.{turn_by}
use Rattle.run.specs.Run.{Run, given, run_of}

-- the file's run after its first k turns
abbrev pub run_after : List ℕ → ℕ → Run
run_after file k = run_of (read_of file).x (read_of file).n (table_of file) (take k (turns_of file))

-- the answer of the turn that comes then
abbrev pub answer_at : List ℕ → ℕ → Answer
answer_at file k =
    let s = run_after file k in
    (turn_by s.bench (given (table_of file) s (get_or (turns_of file) k 0))).answer

-- of a file of bytes that reads well, no turn is refused: 9 to 13 are not reached
unfoldable pub NoneRefused : Type 0
NoneRefused =
    (file : List ℕ) → AllBytes file → (read_of file).refused ≡ 0 → (k : ℕ) → k < length (turns_of file) → (told (answer_at file k)).case ≡ 3 → ⊥
