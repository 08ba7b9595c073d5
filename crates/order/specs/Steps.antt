-- A run as its turns, read off the step table alone: which call each turn is for, and the calls in order of effect. Turns are numbered from 1, and calls go by a number above 0.
-- Assumes nothing.
use Rattle.std.specs.Prelude.{Bool, cond, ◌&&◌, List, [], ◌∷◌, ◌++◌, map, ℕ, zero, suc, ◌+◌, eqb, get_or}
use Rattle.method.specs.declared.Answer.{Answer}
use Rattle.method.specs.Record.{at_rest}
use Rattle.method.specs.Operation.{operates}
use Rattle.bench.specs.declared.Bench.{Bench}
use Rattle.bench.specs.Record.{blank, station_at}
use Rattle.bench.specs.Points.{points_in}
use Rattle.bench.specs.Promise.{Turn, turn_by}

-- the bench before a turn, the turn, and the number of the call on offer
pub record Step : Type 0 where
  pub bench : Bench
  pub turn : Turn
  pub offer : ℕ

-- any turns after the first k, with any offers: a call is numbered by the turn in which it begins
unfoldable pub steps_from : ℕ → Bench → List Turn → List Step
steps_from k w [] = []
steps_from k w (u ∷ us) = record { bench = w; turn = u; offer = k + 1 } ∷ steps_from (k + 1) (turn_by w u).bench us

-- no turn
abbrev pub no_step : Step
no_step = record { bench = blank 0 0; turn = record { station = 0; kind = 3; a = 0; b = 0 }; offer = 0 }

-- the turn of number k
abbrev pub step_at : List Step → ℕ → Step
step_at steps k = get_or (no_step ∷ steps) k no_step

abbrev pub station_of : Step → ℕ
station_of s = s.turn.station

abbrev pub answer_of : Step → Answer
answer_of s = (turn_by s.bench s.turn).answer

-- a station at rest that does an operation begins the call on offer
abbrev pub begins_call : Step → Bool
begins_call s = operates (answer_of s) && at_rest (station_at s.bench (station_of s)).place

-- the call that station i has begun last in the first k turns; 0 where it has begun none
unfoldable pub latest_in : List Step → ℕ → ℕ → ℕ
latest_in steps zero i = 0
latest_in steps (suc k) i =
    let s = step_at steps (suc k) in
    cond (begins_call s && eqb i (station_of s)) s.offer (latest_in steps k i)

-- the call that turn k is for
abbrev pub call_in : List Step → ℕ → ℕ
call_in steps k = latest_in steps k (station_of (step_at steps k))

-- how many of the first k turns did an operation for call c
unfoldable pub operations_for : List Step → ℕ → ℕ → ℕ
operations_for steps zero c = 0
operations_for steps (suc k) c = operations_for steps k c + cond (operates (answer_of (step_at steps (suc k))) && eqb c (call_in steps (suc k))) 1 0

-- the calls that have their point in turn k
abbrev pub pointed : List Step → ℕ → List ℕ
pointed steps k =
    let s = step_at steps k in
    map (latest_in steps k) (points_in s.bench (station_of s) (answer_of s))

-- those of the first k turns, turn by turn
unfoldable pub effects : List Step → ℕ → List ℕ
effects steps zero = []
effects steps (suc k) = effects steps k ++ pointed steps (suc k)
