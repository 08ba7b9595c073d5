-- No call waits for another station: from a fresh bench, a turn of a station in a call does its operation. Assumes nothing.
use mathlib.Core.Path.{◌≡◌, refl, ap}
use mathlib.Core.Bool.{true, false, true≢false}
use mathlib.Core.List.{List, [], ◌∷◌}
use Prim.Native.Nat.{ℕ, ◌≤◌}
use native.Mathlib.Omega.{arith}
use borrow.Author.Tests.{ne_eqb, le-ltb}
use Rattle.rules.specs.Limits.{bad_station}
use Rattle.method.specs.declared.Place.{Place}
use Rattle.method.specs.declared.Place.TheVariants.{Rest, At11, At12, At13, At14, At15, At16, At18, At19, At20}
use Rattle.method.specs.declared.Station.{Station}
use Rattle.method.specs.Record.{at_rest}
use Rattle.method.specs.Table.{row}
use Rattle.method.specs.Operation.{operates}
use Rattle.bench.specs.declared.Bench.{Bench}
use Rattle.bench.specs.Record.{station_at, on_bench}
use Rattle.bench.specs.Sound.{sound}
use Rattle.reach.specs.Step.{bad_offer}
use Rattle.bench.specs.Turn.{turn_of, fresh_of}
use Rattle.bench.specs.Promise.{Turn, turn_by, after}
use Rattle.bench.proofs.Promised.{turn_sound, kept_sound}
use Rattle.run.proofs.Start.{fresh_bench}
use Rattle.order.specs.Demand.{WaitFree}
use Rattle.order.proofs.Bridge.{Shape, turn_shape}

-- turns leave a bench sound, with its stations
stays_good : {n : ℕ} (us : List Turn) (w : Bench) → sound w ≡ true → Shape n w → (sound (after w us) ≡ true) × ((after w us).n ≡ n)
unfolding after
stays_good [] w s h = (s, h.0)
stays_good (u ∷ us) w s h = stays_good us (turn_by w u).bench (turn_sound w u s) (turn_shape w u h)

-- each row but the one of a station at rest is an operation
row_operates : (q : Place) (w : Bench) (i : ℕ) (t : Station) (kind a b : ℕ) → at_rest q ≡ false → operates (row on_bench q w i t kind a b).answer ≡ true
unfolding row
row_operates Rest w i t kind a b e = absurd (true≢false e)
row_operates At11 w i t kind a b e = refl
row_operates At12 w i t kind a b e = refl
row_operates At13 w i t kind a b e = refl
row_operates At14 w i t kind a b e = refl
row_operates At15 w i t kind a b e = refl
row_operates At16 w i t kind a b e = refl
row_operates At18 w i t kind a b e = refl
row_operates At19 w i t kind a b e = refl
row_operates At20 w i t kind a b e = refl

turn_operates : (w : Bench) (u : Turn) → sound w ≡ true → 1 ≤ u.station → u.station ≤ w.n → bad_offer u.kind u.a u.b ≡ false
    → at_rest (station_at w u.station).place ≡ false → operates (turn_by w u).answer ≡ true
unfolding turn_of
turn_operates w u s low high good e =
    let i = u.station in
    let known : bad_station w.n i ≡ false = rw (ne_eqb i 0 (λ z. omega arith), le-ltb w.n i high) in
    rw (s, known, good, e) (row_operates (station_at w i).place w i (station_at w i) u.kind u.a u.b e)

pub wait_free : WaitFree
unfolding WaitFree
wait_free x n low high us u some few good busy =
    let e = fresh_bench x n low high in
    let w = (fresh_of x n).bench in
    let g = stays_good {n = n} us w (kept_sound.fresh x n (ap (λ m. m.refused) e)) (rw (ap (λ m. m.bench) e) (refl, (refl, (refl, refl)))) in
    turn_operates (after w us) u g.0 some (omega (arith, g.1)) good busy
