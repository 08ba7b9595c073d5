-- Document 01, "Order of effect": where place 19 raises V.seq, the saved pid's call is the one that the saved claim was made for. Assumes nothing.
use Rattle.std.specs.Prelude.{◌≡◌, true, List, ℕ, ◌+◌, ◌≤◌}
use Rattle.method.specs.declared.Station.{Station}
use Rattle.method.specs.Record.{num}
use Rattle.method.specs.Effect.{raises}
use Rattle.bench.specs.Record.{station_at}
use Rattle.bench.specs.Turn.{fresh_of}
use Rattle.bench.specs.Promise.{Turn, after}

-- the station with the record t, whose claim was saved as the one of version seq with the count c: it is past 5 with s, where V.seq is raised to s + 2, and in that very call
pub record Wins (seq c : ℕ) (t : Station) : Type 0 where
  pub past : 11 ≤ num t.place
  pub version : t.s + 2 ≡ seq
  pub count : t.c ≡ c

-- in every run from a fresh bench, at every raise by a station i
unfoldable pub WinnersAreNamed : Type 0
WinnersAreNamed =
    (x n : ℕ) → 1 ≤ n → n ≤ 32 → (us : List Turn) (i : ℕ)
    → let w = after (fresh_of x n).bench us in
    let t = station_at w i in
    raises t.place w.v t ≡ true → Wins t.saw.seq t.saw.c (station_at w t.saw.pid)
