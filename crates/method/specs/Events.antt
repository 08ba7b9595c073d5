-- What a turn shows, read off the stations before it and its answer, and what a run shows. Assumes nothing.
use Rattle.std.specs.Prelude.{cond, ◌&&◌, List, [], ◌∷◌, ◌++◌, map, ℕ}
use Rattle.card.specs.declared.Halves.{Halves}
use Rattle.method.specs.declared.Place.{Place}
use Rattle.method.specs.declared.Station.{Station}
use Rattle.method.specs.declared.Answer.{Answer}
use Rattle.method.specs.declared.Answer.TheVariants.{Idle, Going, Ended, Refused}
use Rattle.method.specs.Record.{at_rest, call}
use Rattle.method.specs.Effect.{points}
use Rattle.method.specs.Operation.{operates}
use Rattle.method.specs.World.{World, WorldTurn, world_turn}
use Rattle.method.specs.Watch.{Event, Begin, Point, End}

-- a station at rest that does an operation begins the offered call
abbrev pub begin_events : Place → WorldTurn → Answer → List Event
begin_events q u x = cond (operates x && at_rest q) (Begin u.station u.word (call u.kind u.a u.b) ∷ []) []

abbrev pub end_events : ℕ → Answer → List Event
end_events i Idle = []
end_events i Going = []
end_events i (Ended result own) = End i result ∷ []
end_events i (Refused number) = []

-- of n stations with the records st and the words `word`, v being the V of the turn's station: its call's beginning, then the points in the turn, then the end
abbrev pub events_at : Place → (ℕ → ℕ) → (ℕ → Station) → ℕ → Halves → WorldTurn → Answer → List Event
events_at q word st n v u x = begin_events q u x ++ (map Point (points word st n u.station q v (st u.station) x) ++ end_events u.station x)

unfoldable pub events_of : (ℕ → ℕ) → (ℕ → Station) → ℕ → Halves → WorldTurn → Answer → List Event
events_of word st n v u x = events_at (st u.station).place word st n v u x

-- on a world
abbrev pub shown : ℕ → World → WorldTurn → List Event
shown n w u = events_of w.word w.st n (w.v (w.word u.station)) u (world_turn w u).answer

-- of a run
unfoldable pub world_after : World → List WorldTurn → World
world_after w [] = w
world_after w (u ∷ us) = world_after (world_turn w u).world us

unfoldable pub shown_by : ℕ → World → List WorldTurn → List Event
shown_by n w [] = []
shown_by n w (u ∷ us) = shown n w u ++ shown_by n (world_turn w u).world us
