-- One turn of the run loop against one turn of the run: the offer, the bench, and the book. Assumes nothing.
use mathlib.Core.Path.{◌≡◌, refl, ◌∙◌, ap}
use mathlib.Core.Logic.{◌⊎◌, inl, inr, ⊎_elim}
use mathlib.Core.Bool.{Bool, true, false, cond, not, ◌&&◌, false≢true}
use mathlib.Core.List.{List, [], ◌∷◌, ◌++◌}
use Prim.Native.Nat.{ℕ, zero, suc, ◌+◌, ◌-◌, ◌<◌, ◌≤◌}
use native.Mathlib.Omega.{arith}
use native.Mathlib.Decide.{dec_le}
use borrow.Author.Tests.{ltb-true, ltb-false, lt-leb, le-leb, le-ltb, eqb-true, ne_eqb}
use lib.Dec.{ltb, eqb}
use lib.ListN.{get_or}
use Rattle.rules.proofs.Facts.{either_way, and_right}
use Rattle.method.specs.declared.Place.{Place}
use Rattle.method.specs.declared.Place.TheVariants.{Rest, At11, At12, At13, At14, At15, At16, At18, At19, At20}
use Rattle.method.specs.declared.Station.{Station}
use Rattle.method.specs.declared.Answer.TheVariants.{Idle, Going, Ended}
use Rattle.method.specs.Record.{num, at_rest}
use Rattle.method.specs.Table.{row}
use Rattle.method.specs.Effect.{one_word, raises, loses, losers, points}
use Rattle.reach.specs.Step.{bad_offer, step_of}
use Rattle.bench.specs.declared.Bench.{Bench}
use Rattle.bench.specs.Record.{station_at, on_bench}
use Rattle.bench.specs.Record.{turned as benchTurned}
use Rattle.bench.specs.Points.{points_in}
use Rattle.bench.specs.Sound.{sound}
use Rattle.rules.specs.Limits.{bad_station}
use Rattle.bench.specs.Turn.{turn_of}
use Rattle.bench.specs.Promise.{turn_by}
use Rattle.runfile.specs.First.{first_from}
use Rattle.runfile.specs.Layout.{records, call_of}
use Rattle.run.specs.Calls.{made_by, call_after, offering, on_offer, call_for, errand_by, waits, operation_of}
use Rattle.run.specs.Book.{Book, acts, all_enter, call_ends, waiters, raisers, goes_on, finishes}
use Rattle.run.specs.Run.{noted}
use Rattle.run.proofs.Links.{none_after}

-- on a sound bench, a turn of a good station with a good offer is refused 12 or 13 or is the table's row
turn_is_step : (w : Bench) (i kind a b : ℕ) → sound w ≡ true → bad_station w.n i ≡ false → bad_offer kind a b ≡ false
    → turn_of w i kind a b ≡ step_of on_bench (station_at w i).place w i (station_at w i) kind a b
unfolding turn_of step_of
turn_is_step w i kind a b s p q = rw (s, p, q)

station_good : (w : Bench) (i : ℕ) → 1 ≤ i → i ≤ w.n → bad_station w.n i ≡ false
station_good w i h g = rw (ne_eqb i 0 (λ e. omega arith), le-ltb w.n i g)

-- what the errand offers is what the run offers
pub same_offer : (p : Place) (d l : ℕ) → cond (at_rest p) (call_for p d l) 0 ≡ on_offer p d
same_offer p d l = either_way (at_rest p) (λ e. rw e) (λ e. rw e)

-- a call that comes after another is its station's own
next_mine : (p : ℕ → Bool) (i m : ℕ) → (first_from p i m ≡ 0) ⊎ ((p (first_from p i m - 1) ≡ true) × (first_from p i m ≤ i + m) × (1 ≤ first_from p i m))
unfolding first_from
next_mine p i zero = inl refl
next_mine p i (suc m) =
    either_way (p i)
    (λ t.
    let e : suc i - 1 ≡ i = omega arith in
    rw t (inr (rw e t, omega arith, omega arith)))
    (λ f. rw f (⊎_elim (λ z. inl z) (λ k. inr (k.0, omega (arith, k.1), k.2)) (next_mine p (suc i) m)))

pub mine_after : (table : List ℕ) (i c : ℕ)
    → (call_after table i c ≡ 0) ⊎ (((call_of table (call_after table i c)).station ≡ i) × (call_after table i c ≤ records table))
unfolding call_after
mine_after table i c =
    let f = first_from (made_by table i) c (records table - c) in
    elim (dec_le c (records table)) [
      | yes h ↦ ⊎_elim (λ z. inl z)
          (λ k.
          let e : suc (f - 1) ≡ f = omega (arith, k.2) in
          inr (rw e at (eqb-true (call_of table (suc (f - 1))).station i k.0), omega (arith, k.1)))
          (next_mine (made_by table i) c (records table - c))
      | no h ↦ inl (none_after table i c (omega arith))
    ]

-- those that wait are those that lose
module _ (w : Bench) (wait : List ℕ) (i : ℕ) (t : Station) (seen : (j : ℕ) → j < 33 → get_or wait j 0 ≡ waits (station_at w j)) where
  one_waits : (j : ℕ) → j < 33 → 0 < t.saw.seq
      → (not (eqb j t.saw.pid) && eqb (get_or wait j 0) t.saw.seq) ≡ loses one_word i t.saw j (station_at w j)
  one_waits j h g =
      let o = station_at w j in
      ap (λ x. not (eqb j t.saw.pid) && x)
      (ap (λ x. eqb x t.saw.seq) (seen j h)
      ∙ either_way (ltb (num o.place) 11)
      (λ e. rw (e, lt-leb 11 (num o.place) (ltb-true (num o.place) 11 e), ne_eqb 0 t.saw.seq (λ q. omega arith)))
      (λ e. rw (e, le-leb 11 (num o.place) (ltb-false (num o.place) 11 e))))

  pub all_wait : (k : ℕ) → k < 33 → 0 < t.saw.seq → waiters wait t.saw.pid t.saw.seq k ≡ losers one_word i t.saw (station_at w) k
  unfolding waiters losers
  all_wait zero h g = refl
  all_wait (suc k) h g =
      ap (λ l. l ++ cond (not (eqb (suc k) t.saw.pid) && eqb (get_or wait (suc k) 0) t.saw.seq) (suc k ∷ []) []) (all_wait k (omega arith) g)
      ∙ ap (λ x. losers one_word i t.saw (station_at w) k ++ cond x (suc k ∷ []) []) (one_waits (suc k) h g)

-- a station at rest with no call on offer is idle
idle_offer : (p : Place) (w : Bench) (i : ℕ) (t : Station) → at_rest p ≡ true → step_of on_bench p w i t 3 0 0 ≡ benchTurned Idle w
unfolding step_of row
idle_offer Rest w i t e = refl
idle_offer At11 w i t e = absurd (false≢true e)
idle_offer At12 w i t e = absurd (false≢true e)
idle_offer At13 w i t e = absurd (false≢true e)
idle_offer At14 w i t e = absurd (false≢true e)
idle_offer At15 w i t e = absurd (false≢true e)
idle_offer At16 w i t e = absurd (false≢true e)
idle_offer At18 w i t e = absurd (false≢true e)
idle_offer At19 w i t e = absurd (false≢true e)
idle_offer At20 w i t e = absurd (false≢true e)

pub idle_turn : (w : Bench) (table : List ℕ) (i d : ℕ) → sound w ≡ true → 1 ≤ i → i ≤ w.n → at_rest (station_at w i).place ≡ true → d ≡ 0
    → turn_by w (offering table i (on_offer (station_at w i).place d)) ≡ benchTurned Idle w
unfolding call_of
idle_turn w table i d s low high e z =
    let p = (station_at w i).place in
    let none : on_offer p d ≡ 0 = rw (e, z) refl in
    ap (λ c. turn_by w (offering table i c)) none ∙ turn_is_step w i 3 0 0 s (station_good w i low high) refl ∙ idle_offer p w i (station_at w i) e

-- so one that acts at rest has a call on offer
pub acting : (w : Bench) (table : List ℕ) (i d : ℕ) → sound w ≡ true → 1 ≤ i → i ≤ w.n → at_rest (station_at w i).place ≡ true
    → ((turn_by w (offering table i (on_offer (station_at w i).place d))).answer ≡ Idle → ⊥) → 0 < d
acting w table i zero s low high e h = absurd (h (ap (λ x. x.answer) (idle_turn w table i 0 s low high e refl)))
acting w table i (suc d) s low high e h = omega arith

-- the book of the loop is the run's
module _ (w : Bench) (table next wait : List ℕ) (i d l turn : ℕ)
    (after : (c : ℕ) → 0 < c → c ≤ records table → get_or next c 0 ≡ call_after table (call_of table c).station c)
    (mine : (d ≡ 0) ⊎ (((call_of table d).station ≡ i) × (d ≤ records table))) where
  abbrev t : Station
  t = station_at w i

  abbrev here : Place
  here = t.place

  same_acts : (turns : ℕ) (b : Book) → (at_rest here ≡ true → 0 < d)
      → acts (at_rest here) i (call_for here d l) (get_or next (call_for here d l) 0) turns b ≡ acts (at_rest here) i (call_for here d l) (call_after table i (call_for here d l)) turns b
  same_acts turns b h =
      either_way (at_rest here)
      (λ e.
      let k : ((call_of table d).station ≡ i) × (d ≤ records table) = ⊎_elim (λ z. absurd (let g = h e in omega arith)) (λ m. m) mine in
      rw (e, after d (h e) k.1, k.0))
      (λ e. rw e)

  pub ended_noted : (result took own : ℕ) (b : Book) → (at_rest here ≡ true → 0 < d)
      → finishes (errand_by here turn i d l) (record { result = result; own = took }) next b ≡ noted table w turn i (call_for here d l) own (Ended result took) b
  unfolding finishes noted points
  ended_noted result took own b h =
      ap (λ z. call_ends turn (call_for here d l) result (all_enter turn (cond (at_rest here) (i ∷ []) []) z)) (same_acts took b h)

  module _ (seen : (j : ℕ) → j < 33 → get_or wait j 0 ≡ waits (station_at w j)) (few : w.n < 33) where
    same_points : raisers (operation_of t w.v 0 w.n) wait ≡ points_in w i Going
    unfolding points
    same_points =
        either_way (raises here w.v t)
        (λ e.
        let a = eqb (num here) 19 in
        let b = ltb w.v.first t.saw.seq in
        let g = ltb-true w.v.first t.saw.seq (and_right a b e) in
        rw e (ap (λ z. t.saw.pid ∷ z) (all_wait w wait i t seen w.n few (omega arith))))
        (λ e. rw e)

    pub going_noted : (own : ℕ) (b : Book) → (at_rest here ≡ true → 0 < d)
        → goes_on (errand_by here turn i d l) (operation_of t w.v own w.n) next wait b ≡ noted table w turn i (call_for here d l) own Going b
    unfolding goes_on noted
    going_noted own b h =
        ap (λ z. all_enter turn (raisers (operation_of t w.v 0 w.n) wait) z) (same_acts own b h)
        ∙ ap (λ js. all_enter turn js (acts (at_rest here) i (call_for here d l) (call_after table i (call_for here d l)) own b)) same_points
