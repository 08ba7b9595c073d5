-- Turns of any bench: their refusals, and that they keep it sound. Assumes nothing.
use mathlib.Core.Path.{◌≡◌, refl}
use mathlib.Core.Bool.{true, false, ◌&&◌}
use mathlib.Core.List.{List}
use Prim.Native.Nat.{ℕ, ◌≤◌}
use native.Mathlib.Omega.{arith}
use borrow.Author.Tests.{ltb-true, ltb-false, lt-ltb, eqb-true, eqb-false, not-false}
use lib.Dec.{ltb, eqb}
use Rattle.rules.specs.Refusal.{Refusal, refusal_of, holds_at, GivenExactly, FirstIsGiven}
use Rattle.rules.proofs.Exactly.{exactly}
use Rattle.rules.proofs.Facts.{either_way, or_none}
use Rattle.method.specs.declared.Place.{Place}
use Rattle.method.specs.declared.Place.TheVariants.{Rest, At11, At12, At13, At14, At15, At16, At18, At19, At20}
use Rattle.method.specs.declared.Station.{Station}
use Rattle.reach.specs.Step.{count_limit, version_limit, would_begin, or_refused}
use Rattle.reach.proofs.Rest.{known}
use Rattle.bench.specs.declared.Bench.{Bench}
use Rattle.bench.specs.declared.Turned.{Turned}
use Rattle.method.specs.declared.Answer.TheVariants.{Refused}
use Rattle.method.specs.Record.{told}
use Rattle.method.specs.Table.{row, row_at}
use Rattle.bench.specs.Record.{station_at, turned, on_bench}
use Rattle.bench.specs.Sound.{sound}
use Rattle.bench.specs.Turn.{turn_refusals, turn_of}
use Rattle.bench.proofs.AtRest.{row_at_rest}
use Rattle.bench.specs.Promise.{Turn, turn_by, refusals_of, TurnRefusedExactly, RefusesExactly}

-- a row refuses nothing
row_answers : (p : Place) (w : Bench) (i : ℕ) (t : Station) (kind a b : ℕ) → eqb (told (row on_bench p w i t kind a b).answer).case 3 ≡ false
unfolding row
row_answers Rest w i t kind a b = row_at_rest (λ x. eqb (told x.answer).case 3 ≡ false) w i t kind a b (λ e. refl) (λ e v. refl) (λ e f g. refl)
row_answers At11 w i t kind a b = refl
row_answers At12 w i t kind a b = refl
row_answers At13 w i t kind a b = refl
row_answers At14 w i t kind a b = refl
row_answers At15 w i t kind a b = refl
row_answers At16 w i t kind a b = refl
row_answers At18 w i t kind a b = refl
row_answers At19 w i t kind a b = refl
row_answers At20 w i t kind a b = refl

-- refused with the table's number, or x, which is no refused case
module _ (rs : List Refusal) (g : GivenExactly rs) (w : Bench) (x : Turned) (answers : eqb (told x.answer).case 3 ≡ false) where
  refused_or : TurnRefusedExactly rs w (or_refused on_bench (refusal_of rs) w x)
  refused_or =
      either_way (eqb (refusal_of rs) 0)
      (λ e.
      let z = eqb-true (refusal_of rs) 0 e in
      let no = eqb-false (told x.answer).case 3 answers in
      rw e
      (record {
        some = λ n. (
          λ h. absurd (no h.0),
          λ h.
              let k = (g.some n).1 h in
              absurd (let l = ltb-true 0 n k.1 in let q = k.0 in omega arith),
        );
        none = (λ h. g.none.0 z, λ h. no);
        same = λ h. absurd (no h);
      }))
      (λ e.
      let z = eqb-false (refusal_of rs) 0 e in
      rw e
      (record {
        some = λ n. (λ h. (g.some n).0 (h.1, lt-ltb 0 n (let q = h.1 in omega arith)), λ h. (refl, ((g.some n).1 h).0));
        none = (λ h. absurd (h refl), λ h. absurd (z (g.none.1 h)));
        same = λ h. refl;
      }))

pub refuses_exactly : RefusesExactly
unfolding RefusesExactly turn_of FirstIsGiven
refuses_exactly w u =
    let i = u.station in
    let t = station_at w i in
    refused_or (refusals_of w u) (exactly (refusals_of w u) refl) w (row_at on_bench w i t u.kind u.a u.b)
    (row_answers t.place w i t u.kind u.a u.b)

-- a turn that no refusal holds of
pub none_told : (w : Bench) (u : Turn) → refusal_of (refusals_of w u) ≡ 0 → (told (turn_by w u).answer).case ≡ 3 → ⊥
unfolding RefusesExactly FirstIsGiven
none_told w u e = (refuses_exactly w u).none.1 ((exactly (refusals_of w u) refl).none.0 e)

-- what is known where no refusal of a turn holds
pub record Clear (w : Bench) (i kind a b : ℕ) : Type 0 where
  pub is_sound : sound w ≡ true
  pub low : 1 ≤ i
  pub high : i ≤ w.n
  pub known : kind ≤ 3
  pub room : (would_begin (station_at w i).place kind && eqb (station_at w i).c count_limit) ≡ false
  pub early : (would_begin (station_at w i).place kind && ltb version_limit w.v.first) ≡ false

pub clear : (w : Bench) (i kind a b : ℕ) → refusal_of (turn_refusals w i kind a b) ≡ 0 → Clear w i kind a b
unfolding holds_at FirstIsGiven
clear w i kind a b e =
    let none = (exactly (turn_refusals w i kind a b) refl).none.0 e in
    let station = or_none (eqb i 0) (ltb w.n i) (none 10) in
    let z = eqb-false i 0 station.0 in
    record {
      is_sound = not-false (sound w) (none 9);
      low = omega arith;
      high = ltb-false w.n i station.1;
      known = known kind a b (none 11);
      room = none 12;
      early = none 13;
    }

-- a turn is refused with a number and leaves the bench as it was, or it is the row of a turn that no refusal holds of
pub by_turn : (P : Turned → Type 0) (w : Bench) (u : Turn) → ((number : ℕ) → P (turned (Refused number) w))
    → (Clear w u.station u.kind u.a u.b
    → P (row_at on_bench w u.station (station_at w u.station) u.kind u.a u.b))
    → P (turn_by w u)
unfolding turn_of
by_turn P w u refused moves =
    let number = refusal_of (refusals_of w u) in
    either_way (eqb number 0)
    (λ e. rw e (moves (clear w u.station u.kind u.a u.b (eqb-true number 0 e))))
    (λ e. rw e (refused number))
