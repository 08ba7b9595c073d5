-- Demand 3 over runs of the step table: every run behaves as one word served one call at a time. Assumes nothing.
use Rattle.std.specs.Prelude.{true, false, cond, ◌≡◌, List, [], ◌∷◌, ℕ, ◌≤◌, ◌<◌, eqb, length, get_or}
use Rattle.method.specs.Record.{at_rest}
use Rattle.method.specs.Operation.{operates}
use Rattle.bench.specs.Record.{station_at}
use Rattle.reach.specs.Step.{bad_offer}
use Rattle.bench.specs.Turn.{fresh_of}
use Rattle.bench.specs.Promise.{Turn, turn_by, after, FinishingTurns}
use Rattle.order.specs.Log.{Log}
use Rattle.order.specs.Steps.{Step, steps_from, effects}
use Rattle.order.specs.Accepted.{times, Each, served, Accepted}
use Rattle.order.specs.Pinned.{Pinned}

-- of each call in a list and each that stands after it
unfoldable pub Pairs : (ℕ → ℕ → Type 0) → List ℕ → Type 0
Pairs R [] = Unit {0}
Pairs R (c ∷ cs) = Each (R c) cs × Pairs R cs

-- x is the starting value, y is V's value at the end, g what is known of the calls, and the list is the one that is promised
pub record Demand3 (x y : ℕ) (g : Log) (list : List ℕ) : Type 0 where
  -- every ended call took 1, 8 or 10 turns of its own station
  pub took : (c : ℕ) → 1 ≤ g.last c → FinishingTurns (g.own c)
  -- a call begun has ended by its station's tenth turn in it
  pub tenth : (c : ℕ) → 1 ≤ g.first c → g.last c ≡ 0 → g.own c ≤ 9
  -- every ended call is listed once, no call twice, none that has not begun; and the word served in list order gives each its answer
  pub accepted : Accepted x g list
  -- and ends as V's value
  pub word : served x g.call list ≡ y
  -- a call is listed exactly when it has a point
  pub listed : (c : ℕ) → times c list ≡ cond (eqb (g.point c) 0) 0 1
  -- no point falls before its call's first turn, nor after its last
  pub after : (c : ℕ) → 1 ≤ g.point c → (1 ≤ g.first c) × (g.first c ≤ g.point c)
  pub before : (c : ℕ) → 1 ≤ g.last c → (1 ≤ g.point c) × (g.point c ≤ g.last c)
  -- the list goes by turn
  pub rising : Pairs (λ c d. g.point c ≤ g.point d) list
  -- of two listed calls, one that ended before the other began stands before it
  pub order : (i j : ℕ) → i < length list → j < length list → 1 ≤ g.last (get_or list i 0) → g.last (get_or list i 0) < g.first (get_or list j 0) → i < j

-- what is known of the calls of a run is pinned to its turns, and the list is as demanded
pub record OneWordRun (x y : ℕ) (steps : List Step) (list : List ℕ) : Type 0 where
  pub log : Log
  pub pinned : Pinned steps (length steps) log
  pub demand : Demand3 x y log list

-- from a fresh bench, with any turns and any offers, refused ones among them: with the calls in order of effect
unfoldable pub EveryRun : Type 0
EveryRun =
    (x n : ℕ) → 1 ≤ n → n ≤ 32 → (us : List Turn)
    → let steps = steps_from 0 (fresh_of x n).bench us in
    OneWordRun x (after (fresh_of x n).bench us).v.second steps (effects steps (length steps))

-- and no call waits for another station: a turn of a station in a call, with a good offer, does an operation
unfoldable pub WaitFree : Type 0
WaitFree =
    (x n : ℕ) → 1 ≤ n → n ≤ 32 → (us : List Turn) (u : Turn)
    → let w = after (fresh_of x n).bench us in
    1 ≤ u.station → u.station ≤ n → bad_offer u.kind u.a u.b ≡ false → at_rest (station_at w u.station).place ≡ false
    → operates (turn_by w u).answer ≡ true
