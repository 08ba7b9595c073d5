-- A run: the step table folded over the turns of a file, with the book that is kept of it. Assumes nothing.
use Rattle.std.specs.Prelude.{cond, List, [], ◌∷◌, ◌++◌, ℕ, zero, suc, ◌+◌, eqb, get_or, replicate}
use Rattle.method.specs.declared.Answer.{Answer}
use Rattle.method.specs.Record.{at_rest, told}
use Rattle.bench.specs.declared.Bench.{Bench}
use Rattle.bench.specs.Record.{station_at}
use Rattle.bench.specs.Turn.{fresh_of}
use Rattle.bench.specs.Points.{points_in}
use Rattle.bench.specs.Promise.{Turn, turn_by}
use Rattle.run.specs.Calls.{call_after, offering, on_offer, call_for}
use Rattle.run.specs.Row.{by_call, by_station}
use Rattle.run.specs.Book.{Book, acts, all_enter, call_ends, idles}

pub record Run : Type 0 where
  pub bench : Bench
  pub turns : ℕ
  pub book : Book

-- the first calls of stations 0 to k - 1
unfoldable pub first_calls : List ℕ → ℕ → List ℕ
first_calls table zero = []
first_calls table (suc k) = first_calls table k ++ (call_after table k 0 ∷ [])

abbrev pub empty_book : List ℕ → Book
empty_book table =
    record {
      upcoming = first_calls table by_station;
      latest = replicate by_station 0;
      own = replicate by_call 0;
      result = replicate by_call 0;
      last = replicate by_call 0;
      point = replicate by_call 0;
      list = [];
      idle = 0;
      begun = 0;
      ended = 0;
    }

-- the book after the operation of a turn of station i for call c, which has had so many own turns then: the bench before it, the turn's number and its answer
abbrev pub worked : List ℕ → Bench → ℕ → ℕ → ℕ → ℕ → Answer → Book → Book
worked table w turn i c own x b = all_enter turn (points_in w i x) (acts (at_rest (station_at w i).place) i c (call_after table i c) own b)

-- the book after the turn, by what its answer tells: idle, going, ended or refused. `own` is what a call which goes on has had
unfoldable pub noted : List ℕ → Bench → ℕ → ℕ → ℕ → ℕ → Answer → Book → Book
noted table w turn i c own x b =
    cond (eqb (told x).case 0) (idles b)
    (cond (eqb (told x).case 1) (worked table w turn i c own x b)
    (cond (eqb (told x).case 2) (call_ends turn c (told x).result (worked table w turn i c (told x).own x b)) b))

-- what a turn of station i is given: the station, and its next call where it is at rest
abbrev pub given : List ℕ → Run → ℕ → Turn
given table s i = offering table i (on_offer (station_at s.bench i).place (get_or s.book.upcoming i 0))

-- one turn of station i. Turns are numbered from 1
abbrev pub step_run : List ℕ → Run → ℕ → Run
step_run table s i =
    let p = (station_at s.bench i).place in
    let d = get_or s.book.upcoming i 0 in
    let x = turn_by s.bench (given table s i) in
    record {
      bench = x.bench;
      turns = s.turns + 1;
      book = noted table s.bench (s.turns + 1) i (call_for p d (get_or s.book.latest i 0)) (station_at x.bench i).own x.answer s.book;
    }

unfoldable pub run_from : List ℕ → Run → List ℕ → Run
run_from table s [] = s
run_from table s (i ∷ is) = run_from table (step_run table s i) is

-- from a fresh bench
abbrev pub run_of : ℕ → ℕ → List ℕ → List ℕ → Run
run_of x n table turns = run_from table (record { bench = (fresh_of x n).bench; turns = 0; book = empty_book table }) turns
