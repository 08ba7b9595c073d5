-- The turns of a run decide its log: two logs that are pinned to them say the same. Assumes nothing.
use Rattle.std.specs.Prelude.{◌≡◌, List, ℕ, ◌≤◌}
use Rattle.order.specs.Log.{Log}
use Rattle.order.specs.Steps.{Step}
use Rattle.order.specs.Pinned.{Pinned}

pub record SameLog (g g' : Log) : Type 0 where
  pub first : (c : ℕ) → g.first c ≡ g'.first c
  pub last : (c : ℕ) → g.last c ≡ g'.last c
  pub point : (c : ℕ) → g.point c ≡ g'.point c
  pub own : (c : ℕ) → g.own c ≡ g'.own c
  -- of each call that has begun, and of each that has ended
  pub begun : (c : ℕ) → 1 ≤ g.first c → (g.station c ≡ g'.station c) × (g.call c ≡ g'.call c)
  pub ended : (c : ℕ) → 1 ≤ g.last c → g.result c ≡ g'.result c

unfoldable pub LogDecided : Type 0
LogDecided = (steps : List Step) (now : ℕ) (g g' : Log) → Pinned steps now g → Pinned steps now g' → SameLog g g'
