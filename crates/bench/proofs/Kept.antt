-- A turn of a sound bench hands back a sound bench. Assumes nothing.
use mathlib.Core.Path.{◌≡◌, subst⁻¹}
use mathlib.Core.Logic.{◌⊎◌, inl, inr}
use mathlib.Core.Bool.{Bool, true, false, cond, ◌&&◌}
use mathlib.Core.List.{List}
use Prim.Native.Nat.{ℕ, suc, ◌<◌, ◌≤◌, ◌+◌, ◌%◌}
use native.Mathlib.Omega.{arith}
use native.Mathlib.Decide.{dec_lt, ℕ_discrete}
use borrow.Author.Rules.{rules}
use borrow.Author.Tests.{le-ltb, ltb-false, eqb-true, eqb-false, ne_eqb}
use lib.Dec.{ltb, eqb}
use lib.ListN.{get_or, set, length}
use lib.Seq.{set_out, get_or-set_same, get_or-set_other}
use Rattle.card.specs.declared.Halves.{Halves}
use Rattle.card.specs.declared.Claim.{Claim}
use Rattle.card.specs.Register.{halves, claim, at_least, max_write, max_claim}
use Rattle.rules.specs.Test.{When, AllKept}
use Rattle.rules.proofs.Facts.{either_way, and_left, and_right}
use Rattle.method.specs.declared.Place.{Place}
use Rattle.method.specs.declared.Place.TheVariants.{Rest, At11, At12, At13, At14, At15, At16, At18, At19, At20}
use Rattle.method.specs.declared.Station.{Station}
use Rattle.reach.specs.Step.{version_limit, would_begin}
use Rattle.reach.proofs.Rest.{set_or_swap}
use Rattle.bench.specs.declared.Bench.{Bench}
use Rattle.method.specs.Record.{call, resting}
use Rattle.method.specs.Table.{sees, goes, begun, grown, row11, row12, row13, row14, row15, row16, row18, row19, row20, row}
use Rattle.bench.specs.Record.{station_at, a_at, r_at, put_station, put_p, on_bench}
use Rattle.bench.specs.Sound.{head_rules, a_rules, r_rules}
use Rattle.bench.proofs.AtRest.{row_at_rest}
use Rattle.bench.proofs.Sounds.{Stands, StationKept, Sound}

-- what holds of the new value and of every old one holds after the store, at each index
set_each : {X : Type 0} (P : ℕ → X → Type 0) (l : List X) (i : ℕ) (x d : X) → P i x → ((j : ℕ) → j < 33 → P j (get_or l j d)) → (j : ℕ) → j < 33
    → P j (get_or (set l i x) j d)
set_each P l i x d new old j h =
    elim (ℕ_discrete j i) [
      | yes e ↦ elim (dec_lt i (length l)) [
        | yes g ↦ subst⁻¹ (λ k. P k (get_or (set l i x) k d)) e (subst⁻¹ (P i) (get_or-set_same l i x d g) new)
        | no g ↦ subst⁻¹ (λ m. P j (get_or m j d)) (set_out l i x (omega arith)) (old j h)
      ]
      | no g ↦ subst⁻¹ (P j) (get_or-set_other l i j x d g) (old j h)
    ]

-- a rule for what is above n asks nothing of a station of the bench
not_above : (X : Type 0) (n i : ℕ) → i ≤ n → When (ltb n i) X
not_above X n i h = rw (le-ltb n i h) tt

-- a station that goes on in its call, from one place to the next
module _ (limit n : ℕ) (t : Station) where
  to12 : Stands limit n At11 t → Stands limit n At12 (grown t)
  to12 k = search rules

  to13 : Stands limit n At12 t → Stands limit n At13 (goes t At13)
  to13 k = search rules

  to14 : Stands limit n At13 t → Stands limit n At14 (goes t At14)
  to14 k = search rules

  to15 : Stands limit n At14 t → Stands limit n At15 (goes t At15)
  to15 k = search rules

  to16 : (p : Claim) → p.c ≤ limit → p.pid ≤ n → Stands limit n At15 t → Stands limit n At16 (sees t At16 p t.entry)
  to16 p c i k = search rules

  to18 : (e : Halves) → e.first ≤ limit → (t.saw.seq % 2 ≡ 0) → t.saw.c ≡ e.first → Stands limit n At16 t → Stands limit n At18 (sees t At18 t.saw e)
  to18 e h v c k = search rules

  past18 : (e : Halves) → e.first ≤ limit → Stands limit n At16 t → Stands limit n At20 (sees t At20 t.saw e)
  past18 e h k = record { count = k.count; rest = tt; own = inl (omega arith); call = search rules; room = tt; early = tt; entry = tt; agreed = tt }

  to19 : Stands limit n At18 t → Stands limit n At19 (goes t At19)
  to19 k = search rules

  to20 : Stands limit n At19 t → Stands limit n At20 (goes t At20)
  to20 k = record { count = k.count; rest = tt; own = inr (omega arith); call = k.call; room = tt; early = tt; entry = tt; agreed = tt }

  to_rest : (p : Place) → Stands limit n p t → Stands limit n Rest (resting t.c)
  to_rest p k = search rules

-- what holds of both values holds of the one chosen
chosen : {X : Type 0} (P : X → Type 0) (b : Bool) (x y : X) → P x → P y → P (cond b x y)
chosen P true x y p q = p
chosen P false x y p q = q

-- P after a max-write or half-max, and V after a max-write, keep the head's rules
ClaimFits : ℕ → ℕ → Claim → Type 0
ClaimFits limit n p = (p.c ≤ limit) × (p.pid ≤ n)

module _ (limit : ℕ) (w : Bench) (i : ℕ) (s : Sound limit w) (low : 1 ≤ i) (high : i ≤ w.n) where
  abbrev t : Station
  t = station_at w i

  inside : i < 33
  inside = omega (arith, s.head.0.1.0)

  -- the bench with a station of its own changed
  station_put : (x : Station) → Stands limit w.n x.place x → (j : ℕ) → j < 33 → StationKept limit w.n j (get_or (set w.stations i x) j (resting 0))
  station_put x k = set_each (StationKept limit w.n) w.stations i x (resting 0) (record { stands = k; above = not_above _ w.n i high; none = rw (ne_eqb i 0 (λ e. omega arith)) tt }) s.station

  a_put : (x : Halves) → x.first ≤ limit → (j : ℕ) → j < 33 → AllKept (a_rules limit w.n j (get_or (set w.a i x) j (halves 0 0)))
  a_put x h = set_each (λ j e. AllKept (a_rules limit w.n j e)) w.a i x (halves 0 0) ((h, tt), (not_above _ w.n i high, tt)) s.a

  r_put : (k : ℕ) → k ≤ w.n → (x : Halves) → x.first ≤ limit → x.second ≤ 1 → (j : ℕ) → j < 33 → AllKept (r_rules limit w.n j (get_or (set w.r k x) j (halves 0 0)))
  r_put k g x h o = set_each (λ j e. AllKept (r_rules limit w.n j e)) w.r k x (halves 0 0) ((h, (o, tt)), (not_above _ w.n k g, tt)) s.r

  p_put : (p : Claim) → ClaimFits limit w.n p → AllKept (head_rules limit (put_p p w))
  unfolding ClaimFits
  p_put p h = (s.head.0, ((h.0, tt), (s.head.1.1.0, ((h.1, tt), tt))))

  -- the rows
  row_11 : Stands limit w.n At11 t → Sound limit (row11 on_bench w i t).bench
  row_11 k =
      record { head = s.head; a = a_put (halves (t.c + 1) t.call.b) (omega (arith, k.room.0)); r = s.r; station = station_put (grown t) (to12 limit w.n t k) }

  row_12 : Stands limit w.n At12 t → Sound limit (row12 on_bench w i t).bench
  row_12 k =
      record { head = s.head; a = s.a; r = r_put i high (halves t.c 0) k.count (omega arith); station = station_put (goes t At13) (to13 limit w.n t k) }

  row_13 : Stands limit w.n At13 t → Sound limit (row13 on_bench w i t).bench
  unfolding ClaimFits
  row_13 k =
      let fits = chosen (ClaimFits limit w.n) (at_least (t.s + 1) w.p.seq) (claim (t.s + 1) i t.c) w.p (k.count, high) (s.head.1.0.0, s.head.1.1.1.0.0) in
      record { head = p_put (max_claim w.p (t.s + 1) i t.c) fits; a = s.a; r = s.r; station = station_put (goes t At14) (to14 limit w.n t k) }

  row_14 : Stands limit w.n At14 t → Sound limit (row14 on_bench w i t).bench
  row_14 k = record { head = s.head; a = s.a; r = s.r; station = station_put (goes t At15) (to15 limit w.n t k) }

  row_15 : Stands limit w.n At15 t → Sound limit (row15 on_bench w i t).bench
  row_15 k =
      record {
        head = s.head;
        a = s.a;
        r = s.r;
        station = station_put (sees t At16 w.p t.entry) (to16 limit w.n t w.p s.head.1.0.0 s.head.1.1.1.0.0 k);
      }

  row_16 : Stands limit w.n At16 t → Sound limit (row16 on_bench w i t).bench
  row_16 k =
      let e = a_at w t.saw.pid in
      let h : e.first ≤ limit = (s.a t.saw.pid (omega (arith, k.call.1.1.1.1.0, s.head.0.1.0))).0.0 in
      let even = eqb (t.saw.seq % 2) 0 in
      let same = eqb t.saw.c e.first in
      record {
        head = s.head;
        a = s.a;
        r = s.r;
        station =
            either_way (even && same)
            (λ q.
            rw q
            (station_put (sees t At18 t.saw e)
            (to18 limit w.n t e h (eqb-true (t.saw.seq % 2) 0 (and_left even same q)) (eqb-true t.saw.c e.first (and_right even same q)) k)))
            (λ q. rw q (station_put (sees t At20 t.saw e) (past18 limit w.n t e h k)));
      }

  row_18 : Stands limit w.n At18 t → Sound limit (row18 on_bench w i t).bench
  row_18 k =
      let j = t.saw.pid in
      let old = s.r j (omega (arith, k.call.1.1.1.1.0, s.head.0.1.0)) in
      let fits : Halves → Type 0 = λ x. (x.first ≤ limit) × (x.second ≤ 1) in
      let f = chosen fits (at_least t.entry.first (r_at w j).first) (halves t.entry.first 1) (r_at w j) (k.call.1.1.1.1.1.1.0, omega arith) (old.0.0, old.0.1.0) in
      record {
        head = s.head;
        a = s.a;
        r = r_put j k.call.1.1.1.1.0 (max_write (r_at w j) t.entry.first 1) f.0 f.1;
        station = station_put (goes t At19) (to19 limit w.n t k);
      }

  row_19 : Stands limit w.n At19 t → Sound limit (row19 on_bench w i t).bench
  row_19 k =
      let v = chosen (λ (x : Halves). x.first % 2 ≡ 0) (at_least t.saw.seq w.v.first) (halves t.saw.seq t.entry.second) w.v k.agreed.0 s.head.1.1.0.0 in
      record {
        head = (s.head.0, (s.head.1.0, ((v, tt), s.head.1.1.1)));
        a = s.a;
        r = s.r;
        station = station_put (goes t At20) (to20 limit w.n t k);
      }

  row_20 : Stands limit w.n At20 t → Sound limit (row20 on_bench w i t).bench
  row_20 k = record { head = s.head; a = s.a; r = s.r; station = station_put (resting t.c) (to_rest limit w.n t At20 k) }

  -- a station at rest that begins a set or swap
  begins : (kind a b : ℕ) → kind ≤ 3 → Stands limit w.n Rest t → eqb kind 3 ≡ false → eqb kind 0 ≡ false → eqb a b ≡ false → eqb t.c limit ≡ false
      → ltb version_limit w.v.first ≡ false → Sound limit (put_station i (begun (call kind a b) w.v.first t.c) w)
  begins kind a b h k e3 e0 e full late =
      let n3 = eqb-false kind 3 e3 in
      let n0 = eqb-false kind 0 e0 in
      let d = eqb-false a b e in
      let set_swap : (kind ≡ 1) ⊎ (kind ≡ 2) = elim (ℕ_discrete kind 1) [ yes q ↦ inl q | no g ↦ inr (omega arith) ] in
      let room = eqb-false t.c limit full in
      let c : suc t.c ≤ limit = omega (arith, k.count) in
      let v = ltb-false version_limit w.v.first late in
      let even = s.head.1.1.0.0 in
      record { head = s.head; a = s.a; r = s.r; station = station_put (begun (call kind a b) w.v.first t.c) (search rules) }

  pub row_sound : (p : Place) (kind a b : ℕ) → kind ≤ 3 → Stands limit w.n p t → (would_begin p kind && eqb t.c limit) ≡ false
      → (would_begin p kind && ltb version_limit w.v.first) ≡ false → Sound limit (row on_bench p w i t kind a b).bench
  unfolding row
  row_sound Rest kind a b h k full late =
      let q = set_or_swap kind h in
      row_at_rest (λ x. Sound limit x.bench) w i t kind a b (λ e. s) (λ e v. s)
      (λ e3 e0 e. begins kind a b h k e3 e0 e (rw (q, e3, e0) at full) (rw (q, e3, e0) at late))
  row_sound At11 kind a b h k full late = row_11 k
  row_sound At12 kind a b h k full late = row_12 k
  row_sound At13 kind a b h k full late = row_13 k
  row_sound At14 kind a b h k full late = row_14 k
  row_sound At15 kind a b h k full late = row_15 k
  row_sound At16 kind a b h k full late = row_16 k
  row_sound At18 kind a b h k full late = row_18 k
  row_sound At19 kind a b h k full late = row_19 k
  row_sound At20 kind a b h k full late = row_20 k
