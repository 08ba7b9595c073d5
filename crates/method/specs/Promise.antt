-- What is promised of the method: every run behaves as words served one call at a time. Assumes nothing.
use Rattle.std.specs.Prelude.{◌≡◌, List, [], ◌∷◌, ℕ, ◌≤◌}
use Rattle.method.specs.World.{WorldTurn, fresh}
use Rattle.method.specs.Watch.{watching, watched, Good}
use Rattle.method.specs.Events.{world_after, shown_by}

-- every turn is of one of n stations
unfoldable pub Among : ℕ → List WorldTurn → Type 0
Among n [] = Unit {0}
Among n (u ∷ us) = (1 ≤ u.station) × (u.station ≤ n) × Among n us

-- the run's events are good, and V ends as the words that they leave
pub record GoodRun (n : ℕ) (x : ℕ → ℕ) (us : List WorldTurn) : Type 0 where
  pub good : Good (watching x) (shown_by n (fresh x) us)
  pub values : (z : ℕ) → ((world_after (fresh x) us).v z).second ≡ (watched (watching x) (shown_by n (fresh x) us)).words z

-- for any number of stations, any words and any offers
unfoldable pub EveryRunIsGood : Type 0
EveryRunIsGood = (n : ℕ) (x : ℕ → ℕ) (us : List WorldTurn) → Among n us → GoodRun n x us
