-- What is promised of turns, over every bench and every run of turns: soundness, refusals, own turns. Assumes nothing.
use Rattle.std.specs.Prelude.{◌≡◌, ◌⊎◌, ◌↔◌, Bool, true, false, cond, not, ◌&&◌, List, [], ◌∷◌, ℕ, ◌+◌, ◌≤◌, eqb, length}
use Rattle.rules.specs.Refusal.{Refusal, refusal_of, holds_at, earlier}
use Rattle.bench.specs.declared.Bench.{Bench}
use Rattle.bench.specs.declared.Turned.{Turned}
use Rattle.method.specs.Record.{at_rest, Told, told}
use Rattle.method.specs.Operation.{operates}
use Rattle.bench.specs.Record.{station_at}
use Rattle.bench.specs.Sound.{sound}
use Rattle.bench.specs.Turn.{turn_refusals, turn_of, fresh_of}

-- a turn is given a station and an offered call
pub record Turn : Type 0 where
  pub station : ℕ
  pub kind : ℕ
  pub a : ℕ
  pub b : ℕ

abbrev pub turn_by : Bench → Turn → Turned
turn_by w u = turn_of w u.station u.kind u.a u.b

-- what is refused of a turn, and what it answers: this paper's number and values for the answer's case
abbrev pub refusals_of : Bench → Turn → List Refusal
refusals_of w u = turn_refusals w u.station u.kind u.a u.b

abbrev pub told_of : Bench → Turn → Told
told_of w u = told (turn_by w u).answer

-- the bench after some turns
unfoldable pub after : Bench → List Turn → Bench
after w [] = w
after w (u ∷ us) = after (turn_by w u).bench us

-- of a turn x of the bench w with the table rs
pub record TurnRefusedExactly (rs : List Refusal) (w : Bench) (x : Turned) : Type 0 where
  -- it is refused with n exactly when n holds and none before it in the table does
  pub some : (n : ℕ) → (((told x.answer).case ≡ 3) × ((told x.answer).refusal ≡ n)) ↔ ((holds_at rs n ≡ true) × (earlier rs n ≡ false))
  -- it is not refused exactly when none holds
  pub none : ((told x.answer).case ≡ 3 → ⊥) ↔ ((n : ℕ) → holds_at rs n ≡ false)
  -- refused, it hands back the bench given
  pub same : (told x.answer).case ≡ 3 → x.bench ≡ w

unfoldable pub RefusesExactly : Type 0
RefusesExactly = (w : Bench) (u : Turn) → TurnRefusedExactly (refusals_of w u) w (turn_by w u)

-- fresh benches are sound, and a turn of a sound bench hands back a sound bench
pub record KeptSound : Type 0 where
  pub fresh : (x n : ℕ) → (fresh_of x n).refused ≡ 0 → sound (fresh_of x n).bench ≡ true
  pub turn : (w : Bench) (u : Turn) → sound w ≡ true → sound (turn_by w u).bench ≡ true

-- a turn does an operation of the table: it is not refused, and its station is not one at rest that is offered none
abbrev pub operates_on : Bench → Turn → Bool
operates_on w u = eqb (refusal_of (refusals_of w u)) 0 && not (at_rest (station_at w u.station).place && eqb u.kind 3)

-- that is what its answer says, going or ended
pub record OperationTold (w : Bench) (u : Turn) : Type 0 where
  pub some : (operates_on w u ≡ true) ↔ (((told_of w u).case ≡ 1) ⊎ ((told_of w u).case ≡ 2))
  pub same : operates_on w u ≡ operates (turn_by w u).answer

-- the table's operations that station i has done in its call, d before a turn: its own turn that does one is one more, and the call that ends is over
abbrev pub done : ℕ → ℕ → Bench → Turn → ℕ
done i d w u = cond (operates_on w u && eqb i u.station) (cond (eqb (told_of w u).case 2) 0 (d + 1)) d

unfoldable pub operations : ℕ → ℕ → Bench → List Turn → ℕ
operations i d w [] = d
operations i d w (u ∷ us) = operations i (done i d w u) (turn_by w u).bench us

-- the own turns that a call can take to its end
abbrev pub FinishingTurns : ℕ → Type 0
FinishingTurns own = (own ≡ 1) ⊎ ((own ≡ 8) ⊎ (own ≡ 10))

-- of the turn u after the turns us, d being the operations that u's station has done in its call till then
pub record OwnTurns (w : Bench) (us : List Turn) (u : Turn) (d : ℕ) : Type 0 where
  -- own turns count the table's operations that the station did in its call
  pub counts : (station_at (after w us) u.station).own ≡ d
  -- a call that ends took 1, 8 or 10, this turn's operation with them
  pub ended : (told_of (after w us) u).case ≡ 2 → ((told_of (after w us) u).own ≡ d + 1) × FinishingTurns (told_of (after w us) u).own
  -- one that goes on has had nine at most: it has ended by its station's tenth turn in it
  pub going : (told_of (after w us) u).case ≡ 1 → d + 1 ≤ 9

-- from any sound bench, over any turns. Its array has 33 stations, as every bench's has
unfoldable pub OwnTurnsCount : Type 0
OwnTurnsCount =
    (w : Bench) → length w.stations ≡ 33 → sound w ≡ true → (us : List Turn) (u : Turn)
    → OwnTurns w us u (operations u.station (station_at w u.station).own w us)

-- from a fresh bench the count starts at 0
unfoldable pub OwnTurnsFromFresh : Type 0
OwnTurnsFromFresh =
    (x n : ℕ) → (fresh_of x n).refused ≡ 0 → (us : List Turn) (u : Turn)
    → OwnTurns (fresh_of x n).bench us u (operations u.station 0 (fresh_of x n).bench us)

pub record OwnTurnsAreOperations : Type 0 where
  pub answers : (w : Bench) (u : Turn) → OperationTold w u
  pub counts : OwnTurnsCount
  pub fresh : OwnTurnsFromFresh
