-- A journal that is kept of a run turn by turn, out of which its log is read: what the proof of demand 3 shows for a log. The statement does not read it. Assumes nothing.
use Rattle.std.specs.Prelude.{Bool, cond, not, ◌&&◌, List, [], ◌∷◌, ◌++◌, ℕ, ◌+◌, eqb, get_or}
use Rattle.method.specs.declared.Call.{Call}
use Rattle.method.specs.declared.Answer.{Answer}
use Rattle.method.specs.Record.{at_rest, call, told}
use Rattle.method.specs.Update.{upd}
use Rattle.bench.specs.declared.Bench.{Bench}
use Rattle.bench.specs.Record.{station_at}
use Rattle.bench.specs.Turn.{fresh_of}
use Rattle.bench.specs.Points.{points_in}
use Rattle.bench.specs.Promise.{Turn, turn_by}
use Rattle.runfile.specs.Reading.{read_of, table_of, turns_of}
use Rattle.run.specs.Run.{Run, given, empty_book, step_run}
use Rattle.order.specs.Log.{Log}

-- by call as in a log; by station its latest call, 0 where it has none; and the calls in order of effect
pub record Journal : Type 0 where
  pub station : ℕ → ℕ
  pub call : ℕ → Call
  pub first : ℕ → ℕ
  pub point : ℕ → ℕ
  pub last : ℕ → ℕ
  pub result : ℕ → ℕ
  pub own : ℕ → ℕ
  pub latest : ℕ → ℕ
  pub list : List ℕ

abbrev pub log_in : Journal → Log
log_in g =
    record { station = g.station; call = g.call; first = g.first; point = g.point; last = g.last; result = g.result; own = g.own }

-- before the first turn
abbrev pub no_calls : Journal
no_calls =
    record {
      station = λ c. 0;
      call = λ c. call 0 0 0;
      first = λ c. 0;
      point = λ c. 0;
      last = λ c. 0;
      result = λ c. 0;
      own = λ c. 0;
      latest = λ i. 0;
      list = [];
    }

-- station i begins the call o under the number c
abbrev pub begins : ℕ → ℕ → ℕ → Call → Journal → Journal
begins turn c i o g =
    record {
      station = upd g.station c i;
      call = upd g.call c o;
      first = upd g.first c turn;
      point = g.point;
      last = g.last;
      result = g.result;
      own = upd g.own c 0;
      latest = upd g.latest i c;
      list = g.list;
    }

-- the latest call of station i has one own turn more
abbrev pub works : ℕ → Journal → Journal
works i g =
    record {
      station = g.station;
      call = g.call;
      first = g.first;
      point = g.point;
      last = g.last;
      result = g.result;
      own = upd g.own (g.latest i) (g.own (g.latest i) + 1);
      latest = g.latest;
      list = g.list;
    }

-- call c has its point in this turn, and is listed
abbrev pub lists : ℕ → ℕ → Journal → Journal
lists turn c g =
    record {
      station = g.station;
      call = g.call;
      first = g.first;
      point = upd g.point c turn;
      last = g.last;
      result = g.result;
      own = g.own;
      latest = g.latest;
      list = g.list ++ (c ∷ []);
    }

-- the latest call of station j has its point in this turn, if it is one and has none yet
abbrev pub enters : ℕ → ℕ → Journal → Journal
enters turn j g = cond (not (eqb (g.latest j) 0) && eqb (g.point (g.latest j)) 0) (lists turn (g.latest j) g) g

-- one after the other
unfoldable pub all_enter : ℕ → List ℕ → Journal → Journal
all_enter turn [] g = g
all_enter turn (j ∷ js) g = all_enter turn js (enters turn j g)

-- the latest call of station i ends
abbrev pub ends : ℕ → ℕ → ℕ → Journal → Journal
ends turn i result g =
    record {
      station = g.station;
      call = g.call;
      first = g.first;
      point = g.point;
      last = upd g.last (g.latest i) turn;
      result = upd g.result (g.latest i) result;
      own = g.own;
      latest = g.latest;
      list = g.list;
    }

-- an operation of station i; a station at rest begins the offered call o with it, under the number c
abbrev pub acts : Bool → ℕ → ℕ → ℕ → Call → Journal → Journal
acts rests turn c i o g = works i (cond rests (begins turn c i o g) g)

-- after its operation, the calls that have their point in the turn u enter
abbrev pub entered : Bench → ℕ → ℕ → Turn → Answer → Journal → Journal
entered w turn c u x g =
    let i = u.station in
    all_enter turn (points_in w i x) (acts (at_rest (station_at w i).place) turn c i (call u.kind u.a u.b) g)

-- one turn, by what its answer tells: w is the bench before it, and c the number of the call on offer. An idle or refused turn changes nothing
unfoldable pub logged : Bench → ℕ → ℕ → Turn → Answer → Journal → Journal
logged w turn c u x g =
    cond (eqb (told x).case 1) (entered w turn c u x g)
    (cond (eqb (told x).case 2) (ends turn u.station (told x).result (entered w turn c u x g)) g)

-- any turns after the first k, with any offers: a call is numbered by the turn in which it begins
unfoldable pub journal_from : ℕ → Bench → Journal → List Turn → Journal
journal_from k w g [] = g
journal_from k w g (u ∷ us) = journal_from (k + 1) (turn_by w u).bench (logged w (k + 1) (k + 1) u (turn_by w u).answer g) us

-- from a fresh bench. Turns are numbered from 1
abbrev pub journal_of : ℕ → ℕ → List Turn → Journal
journal_of x n us = journal_from 0 (fresh_of x n).bench no_calls us

-- one turn of station i of a file's run: the station's next call is on offer
abbrev pub journal_step : List ℕ → Run → Journal → ℕ → Journal
journal_step table s g i =
    let d = get_or s.book.upcoming i 0 in
    let u = given table s i in
    logged s.bench (s.turns + 1) d u (turn_by s.bench u).answer g

-- turn by turn along the run
unfoldable pub journal_run : List ℕ → Run → Journal → List ℕ → Journal
journal_run table s g [] = g
journal_run table s g (i ∷ is) = journal_run table (step_run table s i) (journal_step table s g i) is

abbrev pub journal_of_file : List ℕ → Journal
journal_of_file file =
    journal_run (table_of file) (record { bench = (fresh_of (read_of file).x (read_of file).n).bench; turns = 0; book = empty_book (table_of file) }) no_calls (turns_of file)
