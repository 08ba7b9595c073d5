-- Any turn, and any run: its events lead from the watcher of the world before it to that of the world after it, which keeps the invariant. Assumes nothing.
use mathlib.Core.Path.{◌≡◌, refl}
use mathlib.Core.List.{List, [], ◌∷◌, append-nil}
use Prim.Native.Nat.{ℕ, ◌≤◌}
use native.Mathlib.Omega.{arith}
use borrow.Author.Tests.{le-leb, ltb-true, ltb-false}
use lib.Dec.{ltb}
use Rattle.rules.proofs.Facts.{either_way}
use Rattle.method.specs.declared.Place.{Place}
use Rattle.method.specs.declared.Place.TheVariants.{Rest, At11, At12, At13, At14, At15, At16, At18, At19, At20}
use Rattle.method.specs.declared.Station.{Station}
use Rattle.method.specs.Table.{row}
use Rattle.method.specs.Effect.{points}
use Rattle.method.specs.World.{World, WorldTurn, turn_at, world_turn}
use Rattle.method.specs.Events.{events_at, events_of, shown, world_after, shown_by}
use Rattle.method.specs.Promise.{Among}
use Rattle.method.proofs.Watched.{leads_none, leads_on}
use Rattle.method.proofs.Kept.{Kept}
use Rattle.method.proofs.Seen.{seen, Next}
use Rattle.method.proofs.Silent.{silent_11, silent_12, silent_13, silent_14, silent_15, silent_16, silent_18, silent_19}
use Rattle.method.proofs.Ends.{rests, ends_at_20}
use Rattle.method.proofs.Raise.{raised}

module _ {n : ℕ} where
  module _ {w : World} (k : Kept n w) (u : WorldTurn) (low : 1 ≤ u.station) (high : u.station ≤ n) where
    abbrev i : ℕ
    i = u.station

    abbrev t : Station
    t = w.st i

    by_place : (q : Place) → t.place ≡ q → Next n w (events_at q w.word w.st n (w.v (w.word i)) u (turn_at q w u).answer) (turn_at q w u).world
    unfolding row points
    by_place Rest e = rests k u e low high
    by_place At11 e = silent_11 k i e
    by_place At12 e = silent_12 k i e
    by_place At13 e = silent_13 k i e
    by_place At14 e = silent_14 k i e
    by_place At15 e = silent_15 k i e
    by_place At16 e = silent_16 k i e
    by_place At18 e = silent_18 k i e
    by_place At19 e =
        let first = (w.v (w.word i)).first in
        let seq = t.saw.seq in
        either_way (ltb first seq)
        (λ up. let l = ltb-true first seq up in rw (up, le-leb first seq (omega arith), append-nil) (raised k i e l))
        (λ no. rw no (silent_19 k i e (ltb-false first seq no)))
    by_place At20 e = ends_at_20 k i e

    pub turns : Next n w (shown n w u) (world_turn w u).world
    unfolding world_turn events_of
    turns = by_place t.place refl

  pub runs : (us : List WorldTurn) {w : World} → Kept n w → Among n us → Next n w (shown_by n w us) (world_after w us)
  unfolding shown_by world_after Among
  runs [] {w} k h = record { leads = leads_none (seen w); kept = k }
  runs (u ∷ us) {w} k h =
      let f = turns k u h.0 h.1 in
      let g = runs us f.kept h.2 in
      record { leads = leads_on (shown n w u) (shown_by n (world_turn w u).world us) f.leads g.leads; kept = g.kept }
