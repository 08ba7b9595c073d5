-- The book that is kept of a run, by stations and by calls: document 01, "Order of effect" and "Report". Assumes nothing.
use Rattle.std.specs.Prelude.{Bool, cond, not, ◌&&◌, List, [], ◌∷◌, ◌++◌, ℕ, zero, suc, ◌+◌, eqb, get_or, set, Option, None, Some}
use Rattle.card.specs.declared.Claim.{Claim}
use Rattle.method.specs.declared.Answer.{Answer}
use Rattle.method.specs.Record.{told}
use Rattle.run.specs.declared.Errand.{Errand}
use Rattle.run.specs.declared.Operation.{Operation}
use Rattle.run.specs.declared.Finish.{Finish}

-- by station: its next call and its latest one. By call: own turns so far, 0 till it begins; its answer and the turn in which it ended, both 0 till then; the turn of
-- its point, 0 till it has one. The list has the calls that have a point, in order of effect
pub record Book : Type 0 where
  pub upcoming : List ℕ
  pub latest : List ℕ
  pub own : List ℕ
  pub result : List ℕ
  pub last : List ℕ
  pub point : List ℕ
  pub list : List ℕ
  pub idle : ℕ
  pub begun : ℕ
  pub ended : ℕ

-- the station begins call c, and has call d next
abbrev pub call_begins : ℕ → ℕ → ℕ → Book → Book
call_begins i c d b =
    record {
      upcoming = set b.upcoming i d;
      latest = set b.latest i c;
      own = b.own;
      result = b.result;
      last = b.last;
      point = b.point;
      list = b.list;
      idle = b.idle;
      begun = b.begun + 1;
      ended = b.ended;
    }

-- call c has had so many own turns
abbrev pub does : ℕ → ℕ → Book → Book
does c turns b =
    record {
      upcoming = b.upcoming;
      latest = b.latest;
      own = set b.own c turns;
      result = b.result;
      last = b.last;
      point = b.point;
      list = b.list;
      idle = b.idle;
      begun = b.begun;
      ended = b.ended;
    }

-- an operation for call c of station i makes so many own turns; a station at rest begins the call with it, and has call d next
abbrev pub acts : Bool → ℕ → ℕ → ℕ → ℕ → Book → Book
acts rests i c d turns b = does c turns (cond rests (call_begins i c d b) b)

-- c is a call, and has no point yet
abbrev pub lacks_point : ℕ → Book → Bool
lacks_point c b = not (eqb c 0) && eqb (get_or b.point c 0) 0

-- the latest call of station j has its point in this turn, if it has none yet
unfoldable pub enters : ℕ → ℕ → Book → Book
enters turn j b =
    let c = get_or b.latest j 0 in
    record {
      upcoming = b.upcoming;
      latest = b.latest;
      own = b.own;
      result = b.result;
      last = b.last;
      point = cond (lacks_point c b) (set b.point c turn) b.point;
      list = cond (lacks_point c b) (b.list ++ (c ∷ [])) b.list;
      idle = b.idle;
      begun = b.begun;
      ended = b.ended;
    }

-- one after the other
unfoldable pub all_enter : ℕ → List ℕ → Book → Book
all_enter turn [] b = b
all_enter turn (j ∷ js) b = all_enter turn js (enters turn j b)

-- call c ends in this turn, with its answer
abbrev pub call_ends : ℕ → ℕ → ℕ → Book → Book
call_ends turn c result b =
    record {
      upcoming = b.upcoming;
      latest = b.latest;
      own = b.own;
      result = set b.result c result;
      last = set b.last c turn;
      point = b.point;
      list = b.list;
      idle = b.idle;
      begun = b.begun;
      ended = b.ended + 1;
    }

-- a turn passes with nothing to do
abbrev pub idles : Book → Book
idles b =
    record {
      upcoming = b.upcoming;
      latest = b.latest;
      own = b.own;
      result = b.result;
      last = b.last;
      point = b.point;
      list = b.list;
      idle = b.idle + 1;
      begun = b.begun;
      ended = b.ended;
    }

-- the stations 1 to k, but pid, that wait for V.seq to become seq
unfoldable pub waiters : List ℕ → ℕ → ℕ → ℕ → List ℕ
waiters wait pid seq zero = []
waiters wait pid seq (suc k) =
    waiters wait pid seq k ++ cond (not (eqb (suc k) pid) && eqb (get_or wait (suc k) 0) seq) (suc k ∷ []) []

-- the stations whose calls have their point where V.seq was raised to a claim: its own first
abbrev pub raised_by : Option Claim → ℕ → List ℕ → List ℕ
raised_by None n wait = []
raised_by (Some saw) n wait = saw.pid ∷ waiters wait saw.pid saw.seq n

abbrev pub raisers : Operation → List ℕ → List ℕ
raisers o wait = raised_by o.raise o.n wait

-- the book after an operation of the errand's call, by the calls that come next
abbrev pub acts_for : Errand → ℕ → List ℕ → Book → Book
acts_for e turns next b = acts e.rests e.station e.call (get_or next e.call 0) turns b

-- after one that did not end the call
unfoldable pub goes_on : Errand → Operation → List ℕ → List ℕ → Book → Book
goes_on e o next wait b = all_enter e.turn (raisers o wait) (acts_for e o.own next b)

-- after the one that ended it
unfoldable pub finishes : Errand → Finish → List ℕ → Book → Book
finishes e f next b =
    call_ends e.turn e.call f.result (all_enter e.turn (cond e.rests (e.station ∷ []) []) (acts_for e f.own next b))

-- after a turn that did not end its call, by what its answer tells
unfoldable pub unended : Answer → Errand → Operation → List ℕ → List ℕ → Book → Book
unended x e o next wait b = cond (eqb (told x).case 0) (idles b) (cond (eqb (told x).case 1) (goes_on e o next wait b) b)
