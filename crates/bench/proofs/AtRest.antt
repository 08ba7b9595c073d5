-- What a turn of a station at rest can come to: idle, a call that ends at once, or a call that begins. Assumes nothing.
use mathlib.Core.Path.{◌≡◌, refl}
use mathlib.Core.Bool.{Bool, true, false, cond, not}
use Prim.Native.Nat.{ℕ}
use lib.Dec.{eqb}
use Rattle.method.specs.declared.Place.TheVariants.{Rest}
use Rattle.method.specs.declared.Station.{Station}
use Rattle.method.specs.declared.Answer.TheVariants.{Idle, Going, Ended}
use Rattle.method.specs.Record.{call}
use Rattle.method.specs.Table.{handed, begun, row}
use Rattle.bench.specs.declared.Bench.{Bench}
use Rattle.bench.specs.declared.Turned.{Turned}
use Rattle.bench.specs.Record.{put_station, turned, on_bench}

module _ (P : Turned → Type 0) (w : Bench) (i : ℕ) (t : Station) (kind a b : ℕ) where
  abbrev begins : Turned
  begins = turned Going (put_station i (begun (call kind a b) w.v.first t.c) w)

  by_tests : (none reads other same : Bool) → (none ≡ true → P (turned Idle w)) → (none ≡ false → (v : ℕ) → P (turned (Ended v 1) w))
      → (none ≡ false → reads ≡ false → same ≡ false → P begins)
      → P (cond none (turned Idle w)
      (cond reads (turned (Ended w.v.second 1) w)
      (cond other (turned (Ended (handed kind 0 w.v.second) 1) w) (cond same (turned (Ended (handed kind 1 w.v.second) 1) w) begins))))
  by_tests true reads other same idle ended going = idle refl
  by_tests false true other same idle ended going = ended refl w.v.second
  by_tests false false true same idle ended going = ended refl (handed kind 0 w.v.second)
  by_tests false false false true idle ended going = ended refl (handed kind 1 w.v.second)
  by_tests false false false false idle ended going = going refl refl refl

  pub row_at_rest : (eqb kind 3 ≡ true → P (turned Idle w)) → (eqb kind 3 ≡ false → (v : ℕ) → P (turned (Ended v 1) w))
      → (eqb kind 3 ≡ false → eqb kind 0 ≡ false → eqb a b ≡ false → P begins) → P (row on_bench Rest w i t kind a b)
  unfolding row
  row_at_rest = by_tests (eqb kind 3) (eqb kind 0) (not (eqb w.v.second a)) (eqb a b)
