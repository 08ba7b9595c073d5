-- Own turns count the table's operations that a station did in its call, and there are 1, 8 or 10 of them. Assumes nothing.
use mathlib.Core.Path.{◌≡◌, refl, ◌∙◌, sym, ap, subst}
use mathlib.Core.Logic.{◌⊎◌, ◌↔◌, inl, inr, ⊎_elim}
use mathlib.Core.Bool.{true, cond, not, ◌&&◌, ◌||◌, false≢true}
use mathlib.Core.List.{List, [], ◌∷◌}
use Prim.Native.Nat.{ℕ, ◌<◌, ◌≤◌, ◌+◌}
use native.Mathlib.Omega.{arith}
use borrow.Author.Tests.{eqb-true, eqb-false}
use native.Mathlib.Decide.{dec_lt}
use lib.Dec.{ltb, eqb}
use lib.ListN.{get_or, set, replicate, length, length-set, get_or-replicate, get_or-eq_default}
use lib.Seq.{get_or-set_same, get_or-set_other}
use Rattle.rules.specs.Limits.{station_limit}
use Rattle.rules.specs.Refusal.{refusal_of}
use Rattle.rules.proofs.Facts.{either_way}
use Rattle.method.specs.declared.Place.{Place}
use Rattle.method.specs.declared.Place.TheVariants.{Rest, At11, At12, At13, At14, At15, At16, At18, At19, At20}
use Rattle.method.specs.declared.Station.{Station}
use Rattle.reach.specs.Step.{count_limit}
use Rattle.bench.specs.declared.Bench.{Bench}
use Rattle.bench.specs.declared.Turned.{Turned}
use Rattle.method.specs.declared.Answer.{Answer}
use Rattle.method.specs.declared.Answer.TheVariants.{Idle, Going, Ended, Refused}
use Rattle.method.specs.Record.{at_rest, told, call, resting}
use Rattle.method.specs.Operation.{operates}
use Rattle.method.specs.Table.{sees, goes, begun, grown, row}
use Rattle.bench.specs.Record.{station_at, put_station, turned, on_bench}
use Rattle.bench.specs.Sound.{sound}
use Rattle.bench.specs.Turn.{fresh_of, turn_of}
use Rattle.bench.specs.Promise.{Turn, turn_by, refusals_of, after, operates_on, OperationTold, done, operations, FinishingTurns, OwnTurns, OwnTurnsCount, OwnTurnsFromFresh, OwnTurnsAreOperations}
use Rattle.bench.proofs.AtRest.{row_at_rest}
use Rattle.bench.proofs.Sounds.{Stands, facts}
use Rattle.bench.proofs.Clear.{by_turn}
use Rattle.bench.proofs.Promised.{turn_sound, kept_sound}

-- whether a row does an operation
row_operates : (p : Place) (w : Bench) (i : ℕ) (t : Station) (kind a b : ℕ) → operates (row on_bench p w i t kind a b).answer ≡ not (at_rest p && eqb kind 3)
unfolding row
row_operates Rest w i t kind a b =
    row_at_rest (λ x. operates x.answer ≡ not (eqb kind 3)) w i t kind a b (λ e. rw e refl) (λ e v. rw e refl) (λ e f g. rw e refl)
row_operates At11 w i t kind a b = refl
row_operates At12 w i t kind a b = refl
row_operates At13 w i t kind a b = refl
row_operates At14 w i t kind a b = refl
row_operates At15 w i t kind a b = refl
row_operates At16 w i t kind a b = refl
row_operates At18 w i t kind a b = refl
row_operates At19 w i t kind a b = refl
row_operates At20 w i t kind a b = refl

same_operation : (w : Bench) (u : Turn) → operates_on w u ≡ operates (turn_by w u).answer
unfolding turn_of
same_operation w u =
    let t = station_at w u.station in
    either_way (eqb (refusal_of (refusals_of w u)) 0)
    (λ e. rw e (sym (row_operates t.place w u.station t u.kind u.a u.b)))
    (λ e. rw e)

by_case : (x : Answer) → (operates x ≡ true) ↔ (((told x).case ≡ 1) ⊎ ((told x).case ≡ 2))
by_case Idle = (λ e. absurd (false≢true e), ⊎_elim (λ e. absurd (omega arith)) (λ e. absurd (omega arith)))
by_case Going = (λ e. inl refl, λ h. refl)
by_case (Ended result own) = (λ e. inr refl, λ h. refl)
by_case (Refused number) = (λ e. absurd (false≢true e), ⊎_elim (λ e. absurd (omega arith)) (λ e. absurd (omega arith)))

operation_told : (w : Bench) (u : Turn) → OperationTold w u
operation_told w u =
    let e = same_operation w u in
    let h = by_case (turn_by w u).answer in
    record { some = (λ o. h.0 (sym e ∙ o), λ o. e ∙ h.1 o); same = e }

-- the operations done, by the answer
abbrev pub counted : ℕ → ℕ → Turn → Answer → ℕ
counted i d u Idle = d
counted i d u Going = cond (eqb i u.station) (d + 1) d
counted i d u (Ended result own) = cond (eqb i u.station) 0 d
counted i d u (Refused number) = d

counted_so : (x : Answer) (i d : ℕ) (u : Turn) → cond (operates x && eqb i u.station) (cond (eqb (told x).case 2) 0 (d + 1)) d ≡ counted i d u x
counted_so Idle i d u = refl
counted_so Going i d u = refl
counted_so (Ended result own) i d u = refl
counted_so (Refused number) i d u = refl

pub done_counted : (i d : ℕ) (w : Bench) (u : Turn) → done i d w u ≡ counted i d u (turn_by w u).answer
done_counted i d w u =
    ap (λ o. cond (o && eqb i u.station) (cond (eqb (told (turn_by w u).answer).case 2) 0 (d + 1)) d) (same_operation w u) ∙ counted_so (turn_by w u).answer i d u

-- what a turn of station i does to the own turns of every station, and what it answers of its own, d of them being done
record Counts (w : Bench) (u : Turn) (x : Turned) : Type 0 where
  whole : length x.bench.stations ≡ length w.stations
  owns : (i : ℕ) → (station_at x.bench i).own ≡ counted i (station_at w i).own u x.answer
  ended : (told x.answer).case ≡ 2 → ((told x.answer).own ≡ (station_at w u.station).own + 1)
      × FinishingTurns (told x.answer).own
  going : (told x.answer).case ≡ 1 → (station_at w u.station).own + 1 ≤ 9

refuses : (w : Bench) (u : Turn) (number : ℕ) → Counts w u (turned (Refused number) w)
refuses w u number = record { whole = refl; owns = λ i. refl; ended = λ n. absurd (omega arith); going = λ n. absurd (omega arith) }

module _ (limit : ℕ) (w : Bench) (u : Turn) (inside : u.station < length w.stations) where
  abbrev t : Station
  t = station_at w u.station

  -- the own turns of station i once the turn's station has the record x
  put_own : (x : Station) (i : ℕ) → (get_or (set w.stations u.station x) i (resting 0)).own ≡ cond (eqb i u.station) x.own (station_at w i).own
  put_own x i =
      either_way (eqb i u.station)
      (λ e. rw (e, eqb-true i u.station e) (ap (λ (z : Station). z.own) (get_or-set_same w.stations u.station x (resting 0) inside)))
      (λ e. rw e (ap (λ (z : Station). z.own) (get_or-set_other w.stations u.station i x (resting 0) (eqb-false i u.station e))))

  -- the choice of station i, where that is the turn's own
  by_station_lem : (f : ℕ → ℕ) (x : ℕ) (i : ℕ) → x ≡ f t.own → cond (eqb i u.station) x (station_at w i).own ≡ cond (eqb i u.station) (f (station_at w i).own) (station_at w i).own
  by_station_lem f x i e =
      either_way (eqb i u.station)
      (λ q. rw q (e ∙ ap (λ j. f (station_at w j).own) (sym (eqb-true i u.station q))))
      (λ q. rw q)

  -- a bench whose registers are v, where the station's record becomes x and it goes on
  goes_on : (v : Bench) (x : Station) → v.stations ≡ w.stations → x.own ≡ t.own + 1 → t.own + 1 ≤ 9 → Counts w u (turned Going (put_station u.station x v))
  goes_on v x q e h =
      record {
        whole = ap (λ l. length (set l u.station x)) q ∙ length-set w.stations u.station x;
        owns = λ i. ap (λ l. (get_or (set l u.station x) i (resting 0)).own) q ∙ put_own x i ∙ by_station_lem (λ d. d + 1) x.own i e;
        ended = λ n. absurd (omega arith);
        going = λ n. h;
      }

  -- a station at rest that ends its call at once, or is idle
  at_once_lem : (r : ℕ) → t.own ≡ 0 → Counts w u (turned (Ended r 1) w)
  at_once_lem r e =
      record {
        whole = refl;
        owns = λ i. either_way (eqb i u.station) (λ q. rw q (ap (λ j. (station_at w j).own) (eqb-true i u.station q) ∙ e)) (λ q. rw q);
        ended = λ n. (omega arith, inl refl);
        going = λ n. absurd (omega arith);
      }

  idles : Counts w u (turned Idle w)
  idles = record { whole = refl; owns = λ i. refl; ended = λ n. absurd (omega arith); going = λ n. absurd (omega arith) }

  ends : (r : ℕ) → (t.own ≡ 7) ⊎ (t.own ≡ 9) → Counts w u (turned (Ended r (t.own + 1)) (put_station u.station (resting t.c) w))
  ends r h =
      record {
        whole = length-set w.stations u.station (resting t.c);
        owns = λ i. put_own (resting t.c) i;
        ended = λ n. (refl, ⊎_elim (λ q. inr (inl (omega arith))) (λ q. inr (inr (omega arith))) h);
        going = λ n. absurd (omega arith);
      }

  counts : (p : Place) → Stands limit w.n p t → Counts w u (row on_bench p w u.station t u.kind u.a u.b)
  unfolding row
  counts Rest k =
      row_at_rest (Counts w u) w u.station t u.kind u.a u.b (λ e. idles) (λ e v. at_once_lem v k.own)
      (λ e f g. goes_on w (begun (call u.kind u.a u.b) w.v.first t.c) refl (omega (arith, k.own)) (omega (arith, k.own)))
  counts At11 k = goes_on _ (grown t) refl refl (omega (arith, k.own))
  counts At12 k = goes_on _ (goes t At13) refl refl (omega (arith, k.own))
  counts At13 k = goes_on _ (goes t At14) refl refl (omega (arith, k.own))
  counts At14 k = goes_on _ (goes t At15) refl refl (omega (arith, k.own))
  counts At15 k = goes_on _ (sees t At16 w.p t.entry) refl refl (omega (arith, k.own))
  counts At16 k = goes_on w _ refl refl (omega (arith, k.own))
  counts At18 k = goes_on _ (goes t At19) refl refl (omega (arith, k.own))
  counts At19 k = goes_on _ (goes t At20) refl refl (omega (arith, k.own))
  counts At20 k = ends _ k.own

-- one turn of any sound bench
turn_counts : (w : Bench) (u : Turn) → length w.stations ≡ 33 → sound w ≡ true → Counts w u (turn_by w u)
turn_counts w u l s =
    let i = u.station in
    let f = facts w s in
    by_turn (Counts w u) w u (refuses w u)
    (λ k.
    let h : i < 33 = omega (arith, k.high, f.head.0.1.0) in
    counts count_limit w u (omega arith) (station_at w i).place (f.station i h).stands)

-- over any turns
own_counts : (us : List Turn) (i : ℕ) (w : Bench) → length w.stations ≡ 33 → sound w ≡ true
    → (length (after w us).stations ≡ 33) × (sound (after w us) ≡ true) × ((station_at (after w us) i).own ≡ operations i (station_at w i).own w us)
unfolding after operations
own_counts [] i w l s = (l, s, refl)
own_counts (u ∷ us) i w l s =
    let c = turn_counts w u l s in
    let r = own_counts us i (turn_by w u).bench (c.whole ∙ l) (turn_sound w u s) in (r.0, r.1, r.2 ∙ ap (λ d. operations i d (turn_by w u).bench us) (c.owns i ∙ sym (done_counted i (station_at w i).own w u)))

pub own_turns_lem : OwnTurnsCount
unfolding OwnTurnsCount
own_turns_lem w l s us u =
    let v = after w us in
    let r = own_counts us u.station w l s in
    let c = turn_counts v u r.0 r.1 in
    let d = r.2 in
    record {
      counts = d;
      ended = λ e. let h = c.ended e in (h.0 ∙ ap (λ x. x + 1) d, h.1);
      going = λ e. rw (← d) (c.going e);
    }

-- a fresh bench has 33 stations with no own turns
blank_owns : (i : ℕ) → (get_or (replicate 33 (resting 0)) i (resting 0)).own ≡ 0
blank_owns i = elim (dec_lt i 33) [
  | yes h ↦ ap (λ (t : Station). t.own) (get_or-replicate 33 i (resting 0) (resting 0) h)
  | no h ↦ ap (λ (t : Station). t.own) (get_or-eq_default (replicate 33 (resting 0)) (resting 0) {n = i} (omega arith))
]

fresh_owns : (x n i : ℕ) → (fresh_of x n).refused ≡ 0 → (length (fresh_of x n).bench.stations ≡ 33) × ((station_at (fresh_of x n).bench i).own ≡ 0)
unfolding fresh_of
fresh_owns x n i r =
    either_way (eqb n 0 || ltb station_limit n)
    (λ e. absurd (let z : ◌≡◌ {A = ℕ} 3 0 = rw e at r in omega arith))
    (λ e. rw e (refl, blank_owns i))

own_fresh : OwnTurnsFromFresh
unfolding OwnTurnsFromFresh OwnTurnsCount
own_fresh x n r us u =
    let w = (fresh_of x n).bench in
    let f = fresh_owns x n u.station r in
    subst (λ d. OwnTurns w us u (operations u.station d w us)) f.1 (own_turns_lem w f.0 (kept_sound.fresh x n r) us u)

pub own_operations : OwnTurnsAreOperations
own_operations = record { answers = operation_told; counts = own_turns_lem; fresh = own_fresh }
