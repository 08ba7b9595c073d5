-- How large the numbers of a bench can be after k turns of a run whose values are 32 bits. Assumes nothing.
use Rattle.std.specs.Prelude.{ℕ, ◌+◌, ◌*◌, ◌<◌, ◌≤◌}
use Rattle.method.specs.declared.Station.{Station}
use Rattle.bench.specs.declared.Bench.{Bench}
use Rattle.bench.specs.Record.{station_at, a_at}

-- values, calls' and registers', are 32 bits: at most 4,294,967,295
abbrev pub value_limit : ℕ
value_limit = 4294967296

-- what a station has saved, where V.seq is v
pub record StationWithin (k v : ℕ) (t : Station) : Type 0 where
  pub s : t.s ≤ v
  pub seq : t.saw.seq ≤ v + 2
  pub c : t.c ≤ k
  pub a : t.call.a < value_limit
  pub b : t.call.b < value_limit
  pub val : t.entry.second < value_limit

-- a turn raises V.seq by 2 at most, and a station's count by 1
pub record Within (k : ℕ) (w : Bench) : Type 0 where
  pub version : w.v.first ≤ 2 * k
  pub value : w.v.second < value_limit
  pub claim : w.p.seq ≤ w.v.first + 2
  pub entry : (i : ℕ) → (a_at w i).second < value_limit
  pub station : (i : ℕ) → StationWithin k w.v.first (station_at w i)
