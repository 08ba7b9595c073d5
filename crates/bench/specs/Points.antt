-- Document 01, "Order of effect", on a bench: the stations whose calls have their point in a turn. Book and log both take them from here.
-- A raise names the station of the saved pid and not its call; its call is then that station's latest. In a run from a fresh bench that station is then past 5 with s two
-- below the saved seq, in the very call that the saved claim was made for: `WinnersAreNamed`, in `order`. Assumes nothing.
use Rattle.std.specs.Prelude.{List, ℕ}
use Rattle.method.specs.declared.Answer.{Answer}
use Rattle.method.specs.Effect.{one_word, points}
use Rattle.bench.specs.declared.Bench.{Bench}
use Rattle.bench.specs.Record.{station_at}

-- w is the bench before a turn of station i that is answered x
abbrev pub points_in : Bench → ℕ → Answer → List ℕ
points_in w i x = points one_word (station_at w) w.n i (station_at w i).place w.v (station_at w i) x
