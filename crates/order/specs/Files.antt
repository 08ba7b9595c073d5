-- Demand 3 for files: the run of a file that reads well, its calls by their numbers in the table, and the list that the report prints. Assumes nothing.
use Rattle.std.specs.Prelude.{◌≡◌, List, [], ◌∷◌, ℕ, ◌≤◌, length, get_or}
use Rattle.method.specs.declared.Call.{Call}
use Rattle.method.specs.Record.{call}
use Rattle.bench.specs.Turn.{fresh_of}
use Rattle.runfile.specs.Layout.{records, call_of}
use Rattle.runfile.specs.Reading.{read_of, table_of, turns_of}
use Rattle.run.specs.Book.{Book}
use Rattle.run.specs.Run.{Run, given, empty_book, step_run}
use Rattle.run.specs.Drive.{run_of_file}
use Rattle.order.specs.Log.{Log}
use Rattle.order.specs.Steps.{Step, effects}
use Rattle.order.specs.Demand.{OneWordRun}

-- the turns of a file's run, from any point of it: the station's next call is on offer
unfoldable pub steps_run : List ℕ → Run → List ℕ → List Step
steps_run table s [] = []
steps_run table s (i ∷ is) =
    record { bench = s.bench; turn = given table s i; offer = get_or s.book.upcoming i 0 } ∷ steps_run table (step_run table s i) is

abbrev pub steps_of_file : List ℕ → List Step
steps_of_file file =
    steps_run (table_of file) (record { bench = (fresh_of (read_of file).x (read_of file).n).bench; turns = 0; book = empty_book (table_of file) }) (turns_of file)

-- the call o of a station is the table's of number c
pub record InTable (table : List ℕ) (c station : ℕ) (o : Call) : Type 0 where
  pub number : (1 ≤ c) × (c ≤ records table)
  pub maker : station ≡ (call_of table c).station
  pub what : o ≡ call (call_of table c).kind (call_of table c).a (call_of table c).b

-- what the book says of a call is what is known of it: own turns, the answer and the turn in which it ended, the turn of its point
pub record Booked (b : Book) (g : Log) (c : ℕ) : Type 0 where
  pub own : get_or b.own c 0 ≡ g.own c
  pub result : get_or b.result c 0 ≡ g.result c
  pub last : get_or b.last c 0 ≡ g.last c
  pub point : get_or b.point c 0 ≡ g.point c

pub record FileRun (file : List ℕ) : Type 0 where
  -- demand 3, of the very list that the report prints
  pub run : OneWordRun (read_of file).x (run_of_file file).bench.v.second (steps_of_file file) (run_of_file file).book.list
  -- which has the calls in order of effect
  pub in_order : (run_of_file file).book.list ≡ effects (steps_of_file file) (length (steps_of_file file))
  -- a call that has begun is the table's of that number
  pub calls : (c : ℕ) → 1 ≤ run.log.first c → InTable (table_of file) c (run.log.station c) (run.log.call c)
  pub booked : (c : ℕ) → Booked (run_of_file file).book run.log c

unfoldable pub EveryFile : Type 0
EveryFile = (file : List ℕ) → (read_of file).refused ≡ 0 → FileRun file
