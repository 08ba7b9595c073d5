-- A log pinned to the turns of a run: what it says of each call is so, and all that happens is in it. Assumes nothing.
use Rattle.std.specs.Prelude.{◌≡◌, true, List, ℕ, ◌≤◌}
use Rattle.method.specs.declared.Call.{Call}
use Rattle.method.specs.declared.Answer.TheVariants.{Ended}
use Rattle.method.specs.Record.{call}
use Rattle.order.specs.Log.{Log}
use Rattle.order.specs.Accepted.{times}
use Rattle.order.specs.Steps.{Step, step_at, station_of, answer_of, begins_call, call_in, operations_for, pointed}

-- the turn begins call c, which is the call o of that station
pub record Begins (s : Step) (c station : ℕ) (o : Call) : Type 0 where
  pub begins : begins_call s ≡ true
  pub number : s.offer ≡ c
  pub maker : station_of s ≡ station
  pub what : call s.turn.kind s.turn.a s.turn.b ≡ o

-- turn k ends call c, with that result and those own turns
pub record Ends (steps : List Step) (k c result own : ℕ) : Type 0 where
  pub number : call_in steps k ≡ c
  pub answer : answer_of (step_at steps k) ≡ Ended result own

-- by the first `now` turns
pub record Pinned (steps : List Step) (now : ℕ) (g : Log) : Type 0 where
  -- a call's first turn is the one that begins it
  pub first : (c : ℕ) → 1 ≤ g.first c → (g.first c ≤ now) × Begins (step_at steps (g.first c)) c (g.station c) (g.call c)
  pub begun : (k : ℕ) → 1 ≤ k → k ≤ now → begins_call (step_at steps k) ≡ true → (1 ≤ (step_at steps k).offer) × (g.first (step_at steps k).offer ≡ k)
  -- its last turn is the one of its station that ends it
  pub last : (c : ℕ) → 1 ≤ g.last c → (g.last c ≤ now) × Ends steps (g.last c) c (g.result c) (g.own c)
  pub ended : (k result own : ℕ) → 1 ≤ k → k ≤ now → answer_of (step_at steps k) ≡ Ended result own → (1 ≤ call_in steps k) × (g.last (call_in steps k) ≡ k)
  -- its own turns are the operations that were done for it
  pub own : (c : ℕ) → g.own c ≡ operations_for steps now c
  -- its point falls in the turn that adds it to the calls in order of effect
  pub point : (c : ℕ) → 1 ≤ g.point c → (g.point c ≤ now) × (1 ≤ times c (pointed steps (g.point c)))
  pub listed : (c k : ℕ) → 1 ≤ k → k ≤ now → 1 ≤ times c (pointed steps k) → g.point c ≡ k
