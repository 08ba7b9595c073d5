-- A turn of a sound bench where it is: what it reaches is of the bench, and putting it back makes the turn's bench, which is sound. Assumes nothing.
use mathlib.Core.Path.{◌≡◌, ◌∙◌, ap}
use mathlib.Core.Bool.{true}
use Prim.Native.Nat.{ℕ, ◌<◌, ◌≤◌}
use native.Mathlib.Omega.{arith}
use borrow.Author.Tests.{le-ltb, ne_eqb}
use Rattle.reach.specs.declared.Moved.{Moved}
use Rattle.reach.specs.Reach.{reaching, move_of}
use Rattle.reach.specs.Step.{step_of}
use Rattle.bench.specs.declared.Bench.{Bench}
use Rattle.bench.specs.Record.{station_at}
use Rattle.bench.specs.Sound.{sound}
use Rattle.bench.specs.Turn.{turn_of}
use Rattle.bench.proofs.Bridge.{taken, put_back, step_law}
use Rattle.bench.proofs.Promised.{turn_sound}
use Rattle.bench.proofs.Sounds.{few_stations_lem, ready_at, within_at}

module _ (w : Bench) (i : ℕ) (s : sound w ≡ true) (some : i ≡ 0 → ⊥) (few : i ≤ w.n) where
  inside : i < 33
  inside = omega (arith, few_stations_lem w s)

  -- of what the station reaches
  module _ (k : ℕ) (reaches : k ≡ reaching (station_at w i).place i (station_at w i)) where
    pub reached : k < 33
    reached = rw reaches (within_at w i s inside)

    module _ (m : Moved) (kind a b : ℕ) (moves : m ≡ move_of (taken w i k) kind a b) where
      pub is_turn : put_back w i k m ≡ turn_of w i kind a b
      unfolding turn_of step_of
      is_turn = step_law w i k kind a b m (ready_at w i s inside) reaches moves ∙ simp (s, ne_eqb i 0 some, le-ltb w.n i few)

      pub stays_sound : sound (put_back w i k m).bench ≡ true
      stays_sound = ap (λ x. sound x.bench) is_turn ∙ turn_sound w (record { station = i; kind = kind; a = a; b = b }) s

-- what a turn in place is proved by
pub ruleset in_place = (few_stations_lem, reached, is_turn, stays_sound)
