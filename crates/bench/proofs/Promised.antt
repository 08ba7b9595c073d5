-- Soundness is kept: of a fresh bench, and by every turn. Assumes nothing.
use mathlib.Core.Path.{◌≡◌}
use mathlib.Core.Bool.{Bool, true, false, ◌||◌}
use Prim.Native.Nat.{ℕ, ◌<◌, ◌≤◌}
use native.Mathlib.Omega.{arith}
use borrow.Author.Rules.{rules}
use borrow.Author.Tests.{eqb-false, ltb-false}
use lib.Dec.{ltb, eqb}
use lib.ListN.{get_or-replicate}
use Rattle.card.specs.Register.{halves}
use Rattle.rules.specs.Test.{When}
use Rattle.rules.proofs.Facts.{either_way, or_none}
use Rattle.reach.specs.Step.{count_limit}
use Rattle.bench.specs.declared.Bench.{Bench}
use Rattle.method.specs.Record.{resting}
use Rattle.bench.specs.Record.{blank, station_at}
use Rattle.rules.specs.Limits.{station_limit}
use Rattle.bench.specs.Sound.{sound}
use Rattle.bench.specs.Turn.{fresh_of}
use Rattle.bench.specs.Promise.{Turn, turn_by, KeptSound}
use Rattle.bench.proofs.Sounds.{StationKept, Sound, facts, holds}
use Rattle.bench.proofs.Kept.{row_sound}
use Rattle.bench.proofs.Clear.{by_turn}

pub turn_sound : (w : Bench) (u : Turn) → sound w ≡ true → sound (turn_by w u).bench ≡ true
turn_sound w u s =
    let i = u.station in
    let f = facts w s in
    by_turn (λ x. sound x.bench ≡ true) w u (λ number. s)
    (λ k.
    let h : i < 33 = omega (arith, k.high, f.head.0.1.0) in
    holds _
    (row_sound count_limit w i f k.low k.high (station_at w i).place u.kind u.a u.b k.known (f.station i h).stands k.room k.early))

-- a rule that holds anyway holds where its condition is met
anyway : {X : Type 0} (b : Bool) → X → When b X
anyway true x = x
anyway false x = tt

fresh_station_lem : (n i : ℕ) → StationKept count_limit n i (resting 0)
fresh_station_lem n i = record { stands = search rules; above = anyway (ltb n i) (search rules); none = anyway (eqb i 0) (search rules) }

blank_sound : (x n : ℕ) → 1 ≤ n → n ≤ 32 → Sound count_limit (blank x n)
blank_sound x n low high =
    record {
      head = search rules;
      a = λ i h. rw (get_or-replicate 33 i (halves 0 0) (halves 0 0) h) ((search rules, tt), (anyway (ltb n i) (search rules), tt));
      r = λ i h. rw (get_or-replicate 33 i (halves 0 0) (halves 0 0) h) (search rules, (anyway (ltb n i) (search rules), tt));
      station = λ i h. rw (get_or-replicate 33 i (resting 0) (resting 0) h) (fresh_station_lem n i);
    }

fresh_sound : (x n : ℕ) → (fresh_of x n).refused ≡ 0 → sound (fresh_of x n).bench ≡ true
unfolding fresh_of
fresh_sound x n r =
    either_way (eqb n 0 || ltb station_limit n)
    (λ e. absurd (let z : ◌≡◌ {A = ℕ} 3 0 = rw e at r in omega arith))
    (λ e.
    let h = or_none (eqb n 0) (ltb station_limit n) e in
    let z = eqb-false n 0 h.0 in
    rw e (holds _ (blank_sound x n (omega arith) (ltb-false station_limit n h.1))))

pub kept_sound : KeptSound
kept_sound = record { fresh = fresh_sound; turn = turn_sound }
