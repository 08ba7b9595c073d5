-- A sound bench as facts about its numbers, over any count limit, and what a move needs of them. Assumes nothing.
use mathlib.Core.Path.{◌≡◌}
use mathlib.Core.Logic.{⊎_elim}
use mathlib.Core.Bool.{Bool, true, ◌&&◌}
use Prim.Native.Nat.{ℕ, ◌<◌, ◌≤◌}
use native.Mathlib.Omega.{arith}
use Rattle.rules.specs.Test.{Says, Kept, AllKept, all_kept}
use Rattle.rules.proofs.Facts.{and_left, and_right, and_both, all_keep, all_kept_lem}
use Rattle.method.specs.declared.Place.{Place}
use Rattle.method.specs.declared.Place.TheVariants.{Rest, At11, At12, At13, At14, At15, At16, At18, At19, At20}
use Rattle.method.specs.declared.Station.{Station}
use Rattle.reach.specs.Step.{count_limit}
use Rattle.reach.specs.Reach.{Ready, reaching}
use Rattle.bench.specs.declared.Bench.{Bench}
use Rattle.bench.specs.Record.{station_at, a_at, r_at}
use Rattle.bench.specs.Sound.{rests_zero, own_turns, in_call, room_at11, unread_to15, unread_at16, agreed_at18, station_above, no_station, head_rules, a_rules, r_rules, rules_of, entry_kept, each_entry, sound}
use Rattle.bench.proofs.Entries.{kept_at, each_holds, all_hold}

abbrev pub AKept : ℕ → Bench → ℕ → Type 0
AKept limit w i = AllKept (a_rules limit w.n i (a_at w i))

abbrev pub RKept : ℕ → Bench → ℕ → Type 0
RKept limit w i = AllKept (r_rules limit w.n i (r_at w i))

-- the rules of a station that stands at place p, by name; `above` is that of the stations above n, `none` that of record 0
pub record Stands (limit n : ℕ) (p : Place) (t : Station) : Type 0 where
  pub count : t.c ≤ limit
  pub rest : Kept (rests_zero p t)
  pub own : Says (own_turns p t.own)
  pub call : Kept (in_call limit n p t)
  pub room : Kept (room_at11 limit p t)
  pub early : Kept (unread_to15 p t)
  pub entry : Kept (unread_at16 p t)
  pub agreed : Kept (agreed_at18 p t)

pub record StationKept (limit n i : ℕ) (t : Station) : Type 0 where
  pub stands : Stands limit n t.place t
  pub above : Kept (station_above n i t.place t)
  pub none : Kept (no_station i t.place t)

named : (limit n i : ℕ) (t : Station) → AllKept (rules_of limit n i t) → StationKept limit n i t
named limit n i t k =
    let l = k.1.1.1.1.1 in
    record {
      stands =
          record {
            count = k.0.0;
            rest = k.1.1.1.0;
            own = k.1.1.1.1.0.0;
            call = l.0;
            room = l.1.0;
            early = l.1.1.0;
            entry = l.1.1.1.0;
            agreed = l.1.1.1.1.0;
          };
      above = k.1.0;
      none = k.1.1.0;
    }

listed : (limit n i : ℕ) (t : Station) → StationKept limit n i t → AllKept (rules_of limit n i t)
listed limit n i t k =
    let s = k.stands in
    ((s.count, tt), (k.above, (k.none, (s.rest, ((s.own, tt), (s.call, (s.room, (s.early, (s.entry, (s.agreed, tt))))))))))

pub record Sound (limit : ℕ) (w : Bench) : Type 0 where
  pub head : AllKept (head_rules limit w)
  pub a : (i : ℕ) → i < 33 → AKept limit w i
  pub r : (i : ℕ) → i < 33 → RKept limit w i
  pub station : (i : ℕ) → i < 33 → StationKept limit w.n i (station_at w i)

pub facts : (w : Bench) → sound w ≡ true → Sound count_limit w
unfolding sound entry_kept
facts w e =
    let h = all_kept (head_rules count_limit w) in
    let l = each_entry count_limit w 33 in
    let at : (i : ℕ) → i < 33 → kept_at count_limit w i ≡ true = λ i g. each_holds count_limit w i 33 g (and_right h l e) in
    let a : ℕ → Bool = λ i. all_kept (a_rules count_limit w.n i (a_at w i)) in
    let r : ℕ → Bool = λ i. all_kept (r_rules count_limit w.n i (r_at w i)) in
    let t : ℕ → Bool = λ i. all_kept (rules_of count_limit w.n i (station_at w i)) in
    record {
      head = all_keep (head_rules count_limit w) (and_left h l e);
      a = λ i g. all_keep (a_rules count_limit w.n i (a_at w i)) (and_left (a i) (r i && t i) (at i g));
      r = λ i g. all_keep (r_rules count_limit w.n i (r_at w i)) (and_left (r i) (t i) (and_right (a i) (r i && t i) (at i g)));
      station =
          λ i g.
          named count_limit w.n i (station_at w i)
          (all_keep (rules_of count_limit w.n i (station_at w i)) (and_right (r i) (t i) (and_right (a i) (r i && t i) (at i g))));
    }

pub holds : (w : Bench) → Sound count_limit w → sound w ≡ true
unfolding sound entry_kept
holds w s =
    and_both (all_kept_lem (head_rules count_limit w) s.head)
    (all_hold count_limit w 33
    (λ i g.
    and_both (all_kept_lem (a_rules count_limit w.n i (a_at w i)) (s.a i g))
    (and_both (all_kept_lem (r_rules count_limit w.n i (r_at w i)) (s.r i g))
    (all_kept_lem (rules_of count_limit w.n i (station_at w i)) (listed count_limit w.n i (station_at w i) (s.station i g))))))

-- a sound bench has 32 stations at most
pub few_stations_lem : (w : Bench) → sound w ≡ true → w.n ≤ 32
few_stations_lem w s = (facts w s).head.0.1.0

-- what a move needs of its station
pub ready : (p : Place) (n : ℕ) (t : Station) → Stands count_limit n p t → Ready t
ready Rest n t k = omega arith
ready At11 n t k = omega arith
ready At12 n t k = omega arith
ready At13 n t k = omega arith
ready At14 n t k = omega arith
ready At15 n t k = omega arith
ready At16 n t k = omega arith
ready At18 n t k = omega arith
ready At19 n t k = omega arith
ready At20 n t k = ⊎_elim (λ q. omega arith) (λ q. omega arith) k.own

-- what it reaches is an entry of the bench
pub within : (p : Place) (n i : ℕ) (t : Station) → n ≤ 32 → i < 33 → Stands count_limit n p t → reaching p i t < 33
unfolding reaching
within Rest n i t h g k = g
within At11 n i t h g k = g
within At12 n i t h g k = g
within At13 n i t h g k = g
within At14 n i t h g k = g
within At15 n i t h g k = g
within At16 n i t h g k = omega arith
within At18 n i t h g k = omega arith
within At19 n i t h g k = g
within At20 n i t h g k = g

-- of station i of a sound bench
module _ (w : Bench) (i : ℕ) (s : sound w ≡ true) (g : i < 33) where
  pub ready_at : Ready (station_at w i)
  ready_at = ready (station_at w i).place w.n (station_at w i) ((facts w s).station i g).stands

  pub within_at : reaching (station_at w i).place i (station_at w i) < 33
  within_at = within (station_at w i).place w.n i (station_at w i) (few_stations_lem w s) g ((facts w s).station i g).stands
