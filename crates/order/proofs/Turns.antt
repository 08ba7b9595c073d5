-- A turn of the bench keeps the invariant, own turns with it. Assumes nothing.
use mathlib.Core.Path.{◌≡◌, refl, ◌∙◌, sym, ap, subst⁻¹}
use mathlib.Core.Bool.{Bool, true, false, cond, false≢true}
use mathlib.Core.List.{List, [], ◌∷◌, ◌++◌, map}
use Prim.Native.Nat.{ℕ, suc, ◌+◌, ◌≤◌}
use native.Mathlib.Omega.{arith}
use native.Mathlib.Decide.{dec_le}
use borrow.Author.Tests.{eq-eqb, ne_eqb}
use lib.Dec.{eqb}
use lib.ListN.{length, get_or-eq_default}
use Rattle.method.specs.declared.Answer.{Answer}
use Rattle.method.specs.declared.Answer.TheVariants.{Idle, Going, Ended, Refused}
use Rattle.method.specs.declared.Station.{Station}
use Rattle.method.specs.Record.{num, at_rest, call, resting, told}
use Rattle.method.specs.Effect.{points}
use Rattle.method.specs.Update.{upd}
use Rattle.method.specs.Watch.{Free, Event, Begin, Point, End, Watcher, watching, watched, Good}
use Rattle.method.specs.Operation.{operates}
use Rattle.method.specs.Events.{events_of}
use Rattle.method.proofs.Upd.{upd_same, upd_other, upd_all}
use Rattle.method.proofs.Inv.{Inv, free_is_rest}
use Rattle.bench.specs.declared.Bench.{Bench}
use Rattle.bench.specs.Record.{blank, station_at}
use Rattle.bench.specs.Sound.{sound}
use Rattle.bench.specs.Points.{points_in}
use Rattle.bench.specs.Promise.{Turn, turn_by, after, operations, OwnTurns, OwnTurnsCount, FinishingTurns}
use Rattle.bench.proofs.Sounds.{facts}
use Rattle.bench.proofs.Promised.{turn_sound, kept_sound}
use Rattle.run.proofs.Start.{fresh_bench}
use Rattle.bench.proofs.Own.{counted, done_counted, own_turns_lem}
use Rattle.order.specs.Journal.{Journal, no_calls, begins, all_enter, acts, logged}
use Rattle.order.specs.Accepted.{times, served}
use Rattle.order.specs.Demand.{Pairs}
use Rattle.order.proofs.Bridge.{only, view, Shape, events_in, follows, begins_fresh}
use Rattle.order.proofs.Kept.{Mine, entry_of, in_call_lem, Kept, Unbegun, no_end_yet, keeps_on, recount}
use Rattle.order.proofs.Events.{through_begin, through_points, through_end}
use Rattle.order.proofs.Entered.{Entered, none_entered, recast_entered, all_entered}
use Rattle.order.proofs.Owns.{Owns, going, ended}
use Rattle.order.proofs.Same.{enter_all, opening}

-- a station at rest has had no own turns
rest_owns : (w : Bench) (i : ℕ) → sound w ≡ true → length w.stations ≡ 33 → at_rest (station_at w i).place ≡ true → (station_at w i).own ≡ 0
rest_owns w i s l e = elim (dec_le (i + 1) 33) [
  | yes h ↦ (rw e at ((facts w s).station i (omega arith)).stands.rest).0
  | no h ↦ ap (λ (t : Station). t.own) (get_or-eq_default w.stations (resting 0) (omega arith))
]

module _ {x now : ℕ} (t : 1 ≤ now) {owns : ℕ → ℕ} {m : Watcher} {g : Journal} (k : Kept x now owns m g) (w : Bench) (c : ℕ) (u : Turn) where
  abbrev i : ℕ
  i = u.station

  abbrev rests : Bool
  rests = at_rest (station_at w i).place

  module _ (zero : rests ≡ true → owns i ≡ 0) (busy : rests ≡ false → m.phase i ≡ Free → ⊥) where
    -- the own turns that are counted after an operation that goes on, and after one that ends
    counted_going : (j : ℕ) → counted j (owns j) u Going ≡ upd owns i (owns i + 1) j
    counted_going j =
        sym
        (upd_all owns i (owns i + 1) (λ j n. n ≡ cond (eqb j i) (owns j + 1) (owns j)) (rw (eq-eqb i i refl)) (λ j ne. rw (ne_eqb j i ne)) j)

    counted_ended : (result own j : ℕ) → (j ≡ i → ⊥) → counted j (owns j) u (Ended result own) ≡ upd owns i (owns i + 1) j
    counted_ended result own j ne = rw (ne_eqb j i ne) (sym (upd_other owns i (owns i + 1) j ne))

    logged_keeps : (y : Answer) → (operates y ≡ true → rests ≡ true → Unbegun g c) → Good m (events_in w u y)
        → Kept x now (λ j. counted j (owns j) u y) (watched m (events_in w u y)) (logged w now c u y g)
    unfolding logged events_of points watched
    logged_keeps Idle f h = k
    logged_keeps Going f h =
        let js = points_in w i Going in
        let P : Watcher → Type 0 = λ m. Kept x now (λ j. counted j (owns j) u Going) m (logged w now c u Going g) in
        through_begin t (map Point js ++ []) P rests c i (call u.kind u.a u.b) k (λ e. (f refl e, zero e)) busy h
        (λ m' k h. through_points t [] P js k h (λ m' k h. recount k counted_going))
    logged_keeps (Ended result own) f h =
        let js = points_in w i (Ended result own) in
        let P : Watcher → Type 0 = λ m. Kept x now (λ j. counted j (owns j) u (Ended result own)) m (logged w now c u (Ended result own) g) in
        through_begin t (map Point js ++ (End i result ∷ [])) P rests c i (call u.kind u.a u.b) k (λ e. (f refl e, zero e)) busy h
        (λ m' k h. through_points t (End i result ∷ []) P js k h (λ m' k h. through_end t i result (counted_ended result own) k h))
    logged_keeps (Refused number) f h = k

    -- the calls of the points in the turn are those that are listed in it
    acts_lists : (rests : Bool) → ((acts rests now c i (call u.kind u.a u.b) g).point ≡ g.point) × ((acts rests now c i (call u.kind u.a u.b) g).list ≡ g.list)
    acts_lists true = (refl, refl)
    acts_lists false = (refl, refl)

    acts_enters : (y : Answer) (es : List Event) → (rests ≡ true → Unbegun g c)
        → let js = points_in w i y in
        let o = call u.kind u.a u.b in
        let g' = all_enter now js (acts rests now c i o g) in
        Good m (cond rests (Begin i 0 o ∷ []) [] ++ (map Point js ++ es)) → Entered now (map g'.latest js) g.point g'.point g.list g'.list
    acts_enters y es f h =
        let js = points_in w i y in
        let o = call u.kind u.a u.b in
        let g' = all_enter now js (acts rests now c i o g) in
        let same = acts_lists rests in
        through_begin t (map Point js ++ es) (λ m. Entered now (map g'.latest js) g.point g'.point g.list g'.list) rests c i o k (λ e. (f e, zero e)) busy h
        (λ m' k h.
        recast_entered (ap (λ (f : ℕ → ℕ). map f js) (enter_all now js (acts rests now c i o g)).latest) same.0 same.1 (all_entered t es js k h))

    logged_enters : (y : Answer) → (operates y ≡ true → rests ≡ true → Unbegun g c) → Good m (events_in w u y)
        → let g' = logged w now c u y g in
        Entered now (map g'.latest (points_in w i y)) g.point g'.point g.list g'.list
    unfolding logged events_of points
    logged_enters Idle f h = none_entered now g.point g.list
    logged_enters Going f h = acts_enters Going [] (f refl) h
    logged_enters (Ended result own) f h = acts_enters (Ended result own) (End i result ∷ []) (f refl) h
    logged_enters (Refused number) f h = none_entered now g.point g.list

    -- the call of an operation goes on till then, with the turns that its station has had
    begun_owns : Owns g.own g.last → (rests : Bool) → (rests ≡ true → Unbegun g c × (owns i ≡ 0)) → (rests ≡ false → m.phase i ≡ Free → ⊥)
        → let b = cond rests (begins now c i (call u.kind u.a u.b) g) g in
        (b.last (b.latest i) ≡ 0) × ((b.own (b.latest i) ≡ owns i) × Owns b.own b.last)
    begun_owns h true free busy =
        let l = no_end_yet k c (free refl).0 in
        rw (upd_same g.latest i c) (l, (upd_same g.own c 0 ∙ sym (free refl).1, going h c 0 l (omega arith)))
    begun_owns h false free busy =
        let s = in_call_lem (m.phase i) (busy refl) (k.stands i) in
        (s.going, (s.turns, h))

    logged_owns : (y : Answer) → (operates y ≡ true → rests ≡ true → Unbegun g c) → Owns g.own g.last → (y ≡ Going → owns i + 1 ≤ 9)
        → ((result own : ℕ) → y ≡ Ended result own → FinishingTurns (owns i + 1)) → Owns (logged w now c u y g).own (logged w now c u y g).last
    unfolding logged
    logged_owns Idle f h few took = h
    logged_owns Going f h few took =
        let b = begun_owns h rests (λ e. (f refl e, zero e)) busy in
        let e = enter_all now (points_in w i Going) (acts rests now c i (call u.kind u.a u.b) g) in
        rw (e.own, e.last) (going b.1.1 _ _ b.0 (rw b.1.0 (few refl)))
    logged_owns (Ended result own) f h few took =
        let b = begun_owns h rests (λ e. (f refl e, zero e)) busy in
        let e = enter_all now (points_in w i (Ended result own)) (acts rests now c i (call u.kind u.a u.b) g) in
        rw (e.own, e.last, e.latest) (ended b.1.1 _ _ now t (rw b.1.0 (took result own refl)))
    logged_owns (Refused number) f h few took = h

-- what holds of a bench and the journal of its run, till turn `now`
pub record Held (x now : ℕ) (w : Bench) (g : Journal) : Type 0 where
  pub m : Watcher
  pub is_sound : sound w ≡ true
  pub shape : Shape w.n w
  pub inv : Inv w.n (view w) m
  pub kept : Kept x now (λ i. (station_at w i).own) m g
  pub owns : Owns g.own g.last

module _ {x now : ℕ} {w : Bench} {g : Journal} (h : Held x now w g) (u : Turn) where
  -- a station at rest has had no own turns, and one that is not is not free
  rest : let rests = at_rest (station_at w u.station).place in
      (rests ≡ true → (station_at w u.station).own ≡ 0) × (rests ≡ false → h.m.phase u.station ≡ Free → ⊥)
  rest =
      let i = u.station in
      (rest_owns w i h.is_sound h.shape.1.1.1, λ e q. false≢true (sym e ∙ eq-eqb (num (station_at w i).place) 0 (free_is_rest h.inv i q)))

  -- own turns in the bench are counted
  pub counts : (j : ℕ) → (station_at (turn_by w u).bench j).own ≡ counted j (station_at w j).own u (turn_by w u).answer
  unfolding after operations OwnTurnsCount
  counts j = (own_turns_lem w h.shape.1.1.1 h.is_sound (u ∷ []) (record { station = j; kind = 0; a = 0; b = 0 })).counts ∙ done_counted j (station_at w j).own w u

  pub own_turn : OwnTurns w [] u (station_at w u.station).own
  unfolding after operations OwnTurnsCount
  own_turn = own_turns_lem w h.shape.1.1.1 h.is_sound [] u

  pub same_size : (turn_by w u).bench.n ≡ w.n
  same_size = (follows h.shape h.inv u).shape.0

pub turn_held : {x now : ℕ} {w : Bench} {g : Journal} → Held x now w g → (c : ℕ) (u : Turn)
    → (operates (turn_by w u).answer ≡ true → at_rest (station_at w u.station).place ≡ true → Unbegun g c)
    → Held x (now + 1) (turn_by w u).bench (logged w (now + 1) c u (turn_by w u).answer g)
unfolding after
turn_held {x} {now} {w} {g} h c u free =
    let y = (turn_by w u).answer in
    let k = keeps_on h.kept (now + 1) (omega arith) in
    let f = follows h.shape h.inv u in
    let r = rest h u in
    let own = own_turn h u in
    record {
      m = watched h.m (events_in w u y);
      is_sound = turn_sound w u h.is_sound;
      shape = (refl, f.shape.1);
      inv = subst⁻¹ (λ (n : ℕ). Inv n (view (turn_by w u).bench) (watched h.m (events_in w u y))) f.shape.0 f.inv;
      kept = recount (logged_keeps (omega arith) k w c u r.0 r.1 y free f.good) (counts h u);
      owns =
          logged_owns (omega arith) k w c u r.0 r.1 y free h.owns (λ e. own.going (ap (λ y. (told y).case) e))
          (λ result took e. let q = own.ended (ap (λ y. (told y).case) e) in subst⁻¹ FinishingTurns (sym q.0) q.1);
    }

-- the calls that are listed in a turn
pub turn_enters : {x now : ℕ} {w : Bench} {g : Journal} → Held x now w g → (c : ℕ) (u : Turn)
    → (operates (turn_by w u).answer ≡ true → at_rest (station_at w u.station).place ≡ true → Unbegun g c)
    → let y = (turn_by w u).answer in
    let g' = logged w (suc now) c u y g in
    Entered (suc now) (map g'.latest (points_in w u.station y)) g.point g'.point g.list g'.list
turn_enters {x} {now} {w} {g} h c u free =
    let r = rest h u in
    logged_enters (omega arith) (keeps_on h.kept (suc now) (omega arith)) w c u r.0 r.1 (turn_by w u).answer free (follows {w = w} h.shape h.inv u).good

-- the call that a station is in is its latest; and a station at rest has had no own turns
pub turn_mine : {x now : ℕ} {w : Bench} {g : Journal} → Held x now w g → (u : Turn) → at_rest (station_at w u.station).place ≡ false
    → let i = u.station in
    Mine i (station_at w i).own (g.latest i) (entry_of x g (g.latest i))
turn_mine h u e =
    let i = u.station in
    in_call_lem (h.m.phase i) ((rest h u).1 e) (h.kept.stands i)

pub turn_rest : {x now : ℕ} {w : Bench} {g : Journal} → Held x now w g → (u : Turn) → at_rest (station_at w u.station).place ≡ true → (station_at w u.station).own ≡ 0
turn_rest h u = (rest h u).0

-- what the call of an operation has had before it is what its station has
pub turn_had : {x now : ℕ} {w : Bench} {g : Journal} → Held x now w g → (c : ℕ) (u : Turn)
    → (at_rest (station_at w u.station).place ≡ true → Unbegun g c)
    → let b = opening (at_rest (station_at w u.station).place) (now + 1) c u.station (call u.kind u.a u.b) g in
    b.own (b.latest u.station) ≡ (station_at w u.station).own
turn_had {x} {now} {w} {g} h c u free =
    let r = rest h u in
    (begun_owns (omega arith) (keeps_on h.kept (now + 1) (omega arith)) w c u r.0 r.1 h.owns (at_rest (station_at w u.station).place)
    (λ e. (free e, r.0 e)) r.1).1.0

-- a fresh bench, and no calls
pub fresh_held : (x n : ℕ) → 1 ≤ n → n ≤ 32 → Held x 0 (blank x n) no_calls
unfolding served Pairs times
fresh_held x n low high =
    let e = fresh_bench x n low high in
    record {
      m = watching (only 0 x);
      is_sound = ap (λ m. sound m.bench) (sym e) ∙ kept_sound.fresh x n (ap (λ m. m.refused) e);
      shape = (refl, (refl, (refl, refl)));
      inv = begins_fresh x n;
      kept =
          record {
            dated =
                record {
                  firsts = λ c. omega arith;
                  points = λ c. omega arith;
                  after = λ c h. absurd (omega arith);
                  before = λ c h. absurd (omega arith);
                  listed = λ c. refl;
                  rising = tt;
                };
            word = refl;
            answers = λ c h. absurd (omega arith);
            stands = λ i. tt;
          };
      owns = record { took = λ c h. absurd (omega arith); few = λ c h. omega arith };
    }
