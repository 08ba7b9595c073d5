-- A turn keeps the numbers of the book within their limits. Assumes nothing.
use mathlib.Core.Path.{◌≡◌, ◌∙◌, sym}
use mathlib.Core.Logic.{⊎_elim}
use mathlib.Core.Bool.{Bool, not, ◌&&◌}
use mathlib.Core.List.{List, [], ◌∷◌}
use Prim.Native.Nat.{ℕ, ◌+◌, ◌<◌, ◌≤◌}
use native.Mathlib.Omega.{arith}
use borrow.Author.Tests.{eqb-true, eqb-false, not-true}
use lib.Dec.{eqb}
use lib.ListN.{length, get_or, length-set, length-append}
use lib.Seq.{get_or-set_other}
use Rattle.rules.proofs.Facts.{either_way, and_left, and_right}
use Rattle.method.specs.declared.Answer.{Answer}
use Rattle.method.specs.declared.Answer.TheVariants.{Idle, Going, Ended, Refused}
use Rattle.method.specs.Record.{at_rest}
use Rattle.method.specs.Record as Answers
use Rattle.bench.specs.declared.Bench.{Bench}
use Rattle.bench.specs.Record.{station_at}
use Rattle.bench.specs.Points.{points_in}
use Rattle.rules.specs.Limits.{call_limit}
use Rattle.runfile.specs.Layout.{records}
use Rattle.run.specs.Calls.{call_after}
use Rattle.run.specs.Book.{Book, call_begins, does, acts, enters, all_enter, call_ends, idles}
use Rattle.run.specs.Row.{by_call, point_count, CallsWithin}
use Rattle.run.specs.Run.{noted}
use Rattle.run.proofs.Points.{room, point_more}
use Rattle.run.proofs.Steps.{mine_after}
use Rattle.limits.specs.Within.{value_limit}
use Rattle.limits.proofs.Elements.{after_set, one_more, chosen}

-- points up to turn k: as many calls are listed as have one, and call 0, which is none, has none
pub record PointsWithin (k : ℕ) (point list : List ℕ) : Type 0 where
  pub points : length point ≡ by_call
  pub listed : length list ≡ point_count point
  pub none : get_or point 0 0 ≡ 0
  pub latest : (c : ℕ) → get_or point c 0 ≤ k
  pub calls : CallsWithin list

-- call 0 leaves room for all others
pub few_listed : {k : ℕ} {point list : List ℕ} → PointsWithin k point list → length list ≤ call_limit
few_listed {point = point} f = omega (arith, f.listed, f.points, room point 0 (omega (arith, f.points)) f.none)

-- the book after k turns, e of which at most have ended a call
pub record BookWithin (k e : ℕ) (b : Book) : Type 0 where
  pub upcoming : CallsWithin b.upcoming
  pub latest : CallsWithin b.latest
  pub own : (c : ℕ) → get_or b.own c 0 ≤ 10
  pub result : (c : ℕ) → get_or b.result c 0 < value_limit
  pub last : (c : ℕ) → get_or b.last c 0 ≤ k
  pub points : PointsWithin k b.point b.list
  pub idle : b.idle ≤ k
  pub begun : b.begun ≤ k
  pub ended : b.ended ≤ e

entered : (k turn j : ℕ) (b : Book) → 1 ≤ turn → turn ≤ k → get_or b.latest j 0 < by_call → PointsWithin k b.point b.list
    → PointsWithin k (enters turn j b).point (enters turn j b).list
unfolding enters
entered k turn j b low high small f =
    let c = get_or b.latest j 0 in
    let some = not (eqb c 0) in
    let free = eqb (get_or b.point c 0) 0 in
    either_way (some && free)
    (λ e.
    let d = eqb-false c 0 (not-true (eqb c 0) (and_left some free e)) in
    let z = eqb-true (get_or b.point c 0) 0 (and_right some free e) in
    rw e
    (record {
      points = length-set b.point c turn ∙ f.points;
      listed = omega (arith, length-append b.list (c ∷ []), f.listed, point_more b.point c turn (omega (arith, f.points)) z low);
      none = get_or-set_other b.point c 0 turn 0 (λ q. d (sym q)) ∙ f.none;
      latest = after_set (λ x. x ≤ k) b.point c turn 0 high f.latest;
      calls = one_more (λ x. x < by_call) b.list c 0 small f.calls;
    }))
    (λ e. rw e f)

later_points : {k l : ℕ} {point list : List ℕ} → k ≤ l → PointsWithin k point list → PointsWithin l point list
later_points h f = record { points = f.points; listed = f.listed; none = f.none; latest = λ c. omega (arith, f.latest c); calls = f.calls }

module _ {k e : ℕ} {b : Book} (f : BookWithin k e b) where
  later : {l m : ℕ} → k ≤ l → e ≤ m → BookWithin l m b
  later g h =
      record {
        upcoming = f.upcoming;
        latest = f.latest;
        own = f.own;
        result = f.result;
        last = λ c. omega (arith, f.last c);
        points = later_points g f.points;
        idle = omega (arith, f.idle);
        begun = omega (arith, f.begun);
        ended = omega (arith, f.ended);
      }

  beginning : (i c d : ℕ) → c < by_call → d < by_call → BookWithin (k + 1) e (call_begins i c d b)
  beginning i c d g h =
      record {
        upcoming = after_set (λ x. x < by_call) b.upcoming i d 0 h f.upcoming;
        latest = after_set (λ x. x < by_call) b.latest i c 0 g f.latest;
        own = f.own;
        result = f.result;
        last = λ c. omega (arith, f.last c);
        points = later_points (omega arith) f.points;
        idle = omega (arith, f.idle);
        begun = omega (arith, f.begun);
        ended = f.ended;
      }

  doing : (c turns : ℕ) → turns ≤ 10 → BookWithin k e (does c turns b)
  doing c turns h =
      record {
        upcoming = f.upcoming;
        latest = f.latest;
        own = after_set (λ x. x ≤ 10) b.own c turns 0 h f.own;
        result = f.result;
        last = f.last;
        points = f.points;
        idle = f.idle;
        begun = f.begun;
        ended = f.ended;
      }

  entering : (turn j : ℕ) → 1 ≤ turn → turn ≤ k → BookWithin k e (enters turn j b)
  unfolding enters
  entering turn j low high =
      record {
        upcoming = f.upcoming;
        latest = f.latest;
        own = f.own;
        result = f.result;
        last = f.last;
        points = entered k turn j b low high (f.latest j) f.points;
        idle = f.idle;
        begun = f.begun;
        ended = f.ended;
      }

  ending : (turn c result : ℕ) → turn ≤ k → result < value_limit → BookWithin k (e + 1) (call_ends turn c result b)
  ending turn c result now h =
      record {
        upcoming = f.upcoming;
        latest = f.latest;
        own = f.own;
        result = after_set (λ x. x < value_limit) b.result c result 0 h f.result;
        last = after_set (λ x. x ≤ k) b.last c turn 0 now f.last;
        points = f.points;
        idle = f.idle;
        begun = f.begun;
        ended = omega (arith, f.ended);
      }

  idling : BookWithin (k + 1) (e + 1) (idles b)
  idling =
      record {
        upcoming = f.upcoming;
        latest = f.latest;
        own = f.own;
        result = f.result;
        last = λ c. omega (arith, f.last c);
        points = later_points (omega arith) f.points;
        idle = omega (arith, f.idle);
        begun = omega (arith, f.begun);
        ended = omega (arith, f.ended);
      }

-- an operation for call c
acting : {k e : ℕ} {b : Book} (rests : Bool) (i c d turns : ℕ) → c < by_call → d < by_call → turns ≤ 10 → BookWithin k e b
    → BookWithin (k + 1) e (acts rests i c d turns b)
acting {k} {e} rests i c d turns g h own f = doing (chosen (BookWithin (k + 1) e) rests (beginning f i c d g h) (later f (omega arith) (omega arith))) c turns own

all_entering : {k e : ℕ} {b : Book} (turn : ℕ) (js : List ℕ) → 1 ≤ turn → turn ≤ k → BookWithin k e b → BookWithin k e (all_enter turn js b)
unfolding all_enter
all_entering turn [] low high f = f
all_entering {b = b} turn (j ∷ js) low high f = all_entering {b = enters turn j b} turn js low high (entering f turn j low high)

-- a station's call that comes after another, or none
pub call_after_lem : (table : List ℕ) (i c : ℕ) → records table ≤ call_limit → call_after table i c < by_call
call_after_lem table i c h = ⊎_elim (λ z. omega arith) (λ m. omega (arith, m.1)) (mine_after table i c)

-- the book after a turn, by its answer
module _ (table : List ℕ) (few : records table ≤ call_limit) (w : Bench) (k i c own : ℕ) (small : c < by_call) (short : own ≤ 10) (b : Book) (f : BookWithin k k b) where
  pub noting : (x : Answer) → (Answers.told x).result < value_limit → (Answers.told x).own ≤ 10
      → BookWithin (k + 1) (k + 1) (noted table w (k + 1) i c own x b)
  unfolding noted
  noting Idle g h = idling f
  noting Going g h =
      let t = station_at w i in
      later
      (all_entering (k + 1) (points_in w i Going) (omega arith) (omega arith)
      (acting (at_rest t.place) i c (call_after table i c) own small (call_after_lem table i c few) short f))
      (omega arith) (omega arith)
  noting (Ended result took) g h =
      let t = station_at w i in
      ending
      (all_entering (k + 1) (points_in w i (Ended result took)) (omega arith) (omega arith)
      (acting (at_rest t.place) i c (call_after table i c) took small (call_after_lem table i c few) h f))
      (k + 1) c result (omega arith) g
  noting (Refused number) g h = later f (omega arith) (omega arith)
