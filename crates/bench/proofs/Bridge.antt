-- The moves against the table: what a turn reaches, taken out, moved and put back, makes the row. Assumes nothing.
use mathlib.Core.Path.{◌≡◌, ◌∙◌, sym, ap}
use mathlib.Core.Bool.{Bool, true, false, cond, not}
use Prim.Native.Nat.{ℕ}
use lib.Dec.{eqb, ltb}
use lib.ListN.{set}
use lib.Seq.{set-get_or}
use Rattle.rules.proofs.Facts.{either_way, passed}
use Rattle.card.specs.Register.{halves}
use Rattle.method.specs.declared.Place.{Place}
use Rattle.method.specs.declared.Place.TheVariants.{Rest, At11, At12, At13, At14, At15, At16, At18, At19, At20}
use Rattle.method.specs.declared.Station.{Station}
use Rattle.method.specs.declared.Answer.{Answer}
use Rattle.method.specs.declared.Answer.TheVariants.{Idle, Going, Ended, Refused}
use Rattle.method.specs.Record.{call, resting}
use Rattle.method.specs.Table.{handed, begun, row}
use Rattle.reach.specs.declared.Moved.{Moved}
use Rattle.reach.specs.declared.Reach.{Reach}
use Rattle.reach.specs.Step.{count_limit, version_limit, bad_offer, step_of, step_on}
use Rattle.reach.specs.Reach.{ready_rules, Ready, reaching, reach, moved, on_reach, move_of}
use Rattle.reach.proofs.Rest.{rest_in_order, rest_law}
use Rattle.bench.specs.declared.Bench.{Bench}
use Rattle.bench.specs.declared.Turned.{Turned}
use Rattle.bench.specs.Record.{station_at, a_at, r_at, put_station, turned, on_bench}

-- what the turn of station i takes out, with the entry k of A and R, and the bench with it put back
abbrev pub taken : Bench → ℕ → ℕ → Reach
taken w i k = reach i w.v w.p (a_at w k) (r_at w k) (station_at w i)

abbrev pub put_back : Bench → ℕ → ℕ → Moved → Turned
put_back w i k m =
    turned m.answer
    (record {
      n = w.n;
      v = m.reach.v;
      p = m.reach.p;
      a = set w.a k m.reach.a;
      r = set w.r k m.reach.r;
      stations = set w.stations i m.reach.station;
    })

module _ (w : Bench) (i : ℕ) where
  abbrev t : Station
  t = station_at w i

  -- nothing moved
  unmoved : (k : ℕ) (x : Answer) → put_back w i k (moved x (taken w i k)) ≡ turned x w
  unmoved k x = simp (set-get_or w.a k (halves 0 0), set-get_or w.r k (halves 0 0), set-get_or w.stations i (resting 0))

  -- place 5, by its two tests
  five : (kind a b : ℕ) (other same : Bool)
      → put_back w i i
      (cond other (moved (Ended (handed kind 0 w.v.second) 1) (taken w i i))
      (cond same (moved (Ended (handed kind 1 w.v.second) 1) (taken w i i))
      (moved Going (on_reach.put_station i (begun (call kind a b) w.v.first t.c) (taken w i i)))))
      ≡ cond other (turned (Ended (handed kind 0 w.v.second) 1) w)
      (cond same (turned (Ended (handed kind 1 w.v.second) 1) w) (turned Going (put_station i (begun (call kind a b) w.v.first t.c) w)))
  five kind a b true same = unmoved i (Ended (handed kind 0 w.v.second) 1)
  five kind a b false true = unmoved i (Ended (handed kind 1 w.v.second) 1)
  five kind a b false false = simp (set-get_or w.a i (halves 0 0), set-get_or w.r i (halves 0 0))

  rest : (kind a b : ℕ) (none reads full late : Bool)
      → put_back w i i (rest_in_order on_reach (taken w i i) i t kind a b none reads full late) ≡ rest_in_order on_bench w i t kind a b none reads full late
  rest kind a b true reads full late = unmoved i Idle
  rest kind a b false true full late = unmoved i (Ended w.v.second 1)
  rest kind a b false false true late = unmoved i (Refused 12)
  rest kind a b false false false true = unmoved i (Refused 13)
  rest kind a b false false false false = five kind a b (not (eqb w.v.second a)) (eqb a b)

  -- a good offer: the entries that a turn did not change vanish
  bridge : (p : Place) (kind a b : ℕ) → bad_offer kind a b ≡ false
      → put_back w i (reaching p i t) (step_of on_reach p (taken w i (reaching p i t)) i t kind a b) ≡ step_of on_bench p w i t kind a b
  unfolding reaching step_of row
  bridge Rest kind a b e =
      ap (put_back w i i) (rest_law on_reach (taken w i i) i t kind a b e)
      ∙ rest kind a b (eqb kind 3) (eqb kind 0) (eqb t.c count_limit) (ltb version_limit w.v.first) ∙ sym (rest_law on_bench w i t kind a b e)
  bridge At11 kind a b e = rw e (simp (set-get_or w.r i (halves 0 0)))
  bridge At12 kind a b e = rw e (simp (set-get_or w.a i (halves 0 0)))
  bridge At13 kind a b e = rw e (simp (set-get_or w.a i (halves 0 0), set-get_or w.r i (halves 0 0)))
  bridge At14 kind a b e = rw e (simp (set-get_or w.a i (halves 0 0), set-get_or w.r i (halves 0 0)))
  bridge At15 kind a b e = rw e (simp (set-get_or w.a i (halves 0 0), set-get_or w.r i (halves 0 0)))
  bridge At16 kind a b e = rw e (simp (set-get_or w.a t.saw.pid (halves 0 0), set-get_or w.r t.saw.pid (halves 0 0)))
  bridge At18 kind a b e = rw e (simp (set-get_or w.a t.saw.pid (halves 0 0)))
  bridge At19 kind a b e = rw e (simp (set-get_or w.a i (halves 0 0), set-get_or w.r i (halves 0 0)))
  bridge At20 kind a b e = rw e (simp (set-get_or w.a i (halves 0 0), set-get_or w.r i (halves 0 0)))

  -- any offer: a bad one moves nothing
  offered : (p : Place) (kind a b : ℕ)
      → put_back w i (reaching p i t) (step_of on_reach p (taken w i (reaching p i t)) i t kind a b) ≡ step_of on_bench p w i t kind a b
  unfolding step_of
  offered p kind a b = either_way (bad_offer kind a b) (λ e. rw e (unmoved (reaching p i t) (Refused 11))) (bridge p kind a b)

  -- a turn of station i that took out the entry k and moved
  pub step_law : (k kind a b : ℕ) (m : Moved) → Ready t → k ≡ reaching t.place i t → m ≡ move_of (taken w i k) kind a b
      → put_back w i k m ≡ step_on on_bench w i t kind a b
  unfolding move_of step_of
  step_law k kind a b m h p q =
      let e : move_of (taken w i k) kind a b ≡ step_on on_reach (taken w i k) i t kind a b = rw (passed (ready_rules t) h) in
      ap (put_back w i k) (q ∙ e) ∙ ap (λ j. put_back w i j (step_on on_reach (taken w i j) i t kind a b)) p ∙ offered t.place kind a b
