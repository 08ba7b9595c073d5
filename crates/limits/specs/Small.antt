-- How large the numbers are that a report of a run prints. Assumes nothing.
use Rattle.std.specs.Prelude.{◌≡◌, List, ℕ, ◌*◌, ◌<◌, ◌≤◌, length, get_or}
use Rattle.rules.specs.Limits.{call_limit, turn_limit}
use Rattle.octets.specs.Bytes.{AllBytes}
use Rattle.runfile.specs.Reading.{read_of}
use Rattle.run.specs.Run.{Run}
use Rattle.run.specs.Drive.{run_of_file}
use Rattle.limits.specs.Within.{value_limit}

-- by call c: its own turns, its answer, the turn in which it ended and that of its point; the list of calls that have one; the counts; V
pub record Small (r : Run) : Type 0 where
  pub own : (c : ℕ) → get_or r.book.own c 0 ≤ 10
  pub result : (c : ℕ) → get_or r.book.result c 0 < value_limit
  pub last : (c : ℕ) → get_or r.book.last c 0 ≤ turn_limit
  pub point : (c : ℕ) → get_or r.book.point c 0 ≤ turn_limit
  pub listed : length r.book.list ≤ call_limit
  pub calls : (i : ℕ) → get_or r.book.list i 0 ≤ call_limit
  pub turns : r.turns ≤ turn_limit
  pub idle : r.book.idle ≤ turn_limit
  pub begun : r.book.begun ≤ turn_limit
  pub ended : r.book.ended ≤ turn_limit
  pub version : r.bench.v.first ≤ 2 * turn_limit
  pub value : r.bench.v.second < value_limit

-- of every file of bytes that reads well
unfoldable pub SmallNumbers : Type 0
SmallNumbers = (file : List ℕ) → AllBytes file → (read_of file).refused ≡ 0 → Small (run_of_file file)
