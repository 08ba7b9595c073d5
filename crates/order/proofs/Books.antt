-- The book that is kept of a file's run says what the journal knows, turn by turn. Assumes nothing.
use mathlib.Core.Path.{◌≡◌, refl, ◌∙◌, sym, ap}
use mathlib.Core.Bool.{Bool, true, false, cond, not, ◌&&◌}
use mathlib.Core.List.{List, [], ◌∷◌}
use Prim.Native.Nat.{ℕ, ◌+◌, ◌<◌}
use native.Mathlib.Omega.{arith}
use lib.Dec.{eqb}
use lib.ListN.{length, get_or, set, length-set}
use lib.Seq.{get_or-set_same, get_or-set_other, set-set}
use Rattle.rules.proofs.Facts.{either_way}
use Rattle.method.specs.declared.Call.{Call}
use Rattle.method.specs.declared.Answer.{Answer}
use Rattle.method.specs.declared.Answer.TheVariants.{Idle, Going, Ended, Refused}
use Rattle.method.specs.Record.{at_rest, call}
use Rattle.method.specs.Update.{upd}
use Rattle.method.specs.Operation.{operates}
use Rattle.method.proofs.Upd.{upd_same, upd_all}
use Rattle.bench.specs.declared.Bench.{Bench}
use Rattle.bench.specs.Record.{station_at}
use Rattle.bench.specs.Points.{points_in}
use Rattle.bench.specs.Promise.{Turn}
use Rattle.run.specs.Calls.{call_after, call_for}
use Rattle.run.specs.Book.{Book}
use Rattle.run.specs.Book as Book
use Rattle.run.specs.Run.{noted}
use Rattle.run.proofs.Books as Rows
use Rattle.order.specs.Journal.{Journal, enters, all_enter, ends, acts, logged}
use Rattle.order.proofs.Same.{opening, enter_all}

-- a row of a book that holds a function of the journal
pub record Row (n : ℕ) (l : List ℕ) (f : ℕ → ℕ) : Type 0 where
  pub long : length l ≡ n
  pub reads : (i : ℕ) → get_or l i 0 ≡ f i

-- written in both where y is
written : {n : ℕ} {l : List ℕ} {f : ℕ → ℕ} (j x y : ℕ) → Row n l f → j < n → x ≡ y → Row n (set l j x) (upd f j y)
written {n} {l} {f} j x y r h e =
    record {
      long = length-set l j x ∙ r.long;
      reads =
          upd_all f j y (λ i y. get_or (set l j x) i 0 ≡ y) (get_or-set_same l j x 0 (omega (arith, r.long)) ∙ e)
          (λ i ne. get_or-set_other l j i x 0 ne ∙ r.reads i);
    }

pub record Matches (b : Book) (g : Journal) : Type 0 where
  pub latest : Row 33 b.latest g.latest
  pub within : (j : ℕ) → g.latest j < 1025
  pub own : Row 1025 b.own g.own
  pub result : Row 1025 b.result g.result
  pub last : Row 1025 b.last g.last
  pub point : Row 1025 b.point g.point
  pub list : b.list ≡ g.list

module _ {b : Book} {g : Journal} (m : Matches b g) where
  enters_matches : (now j : ℕ) → Matches (Book.enters now j b) (enters now j g)
  unfolding Book.enters
  enters_matches now j =
      let c = g.latest j in
      let is = m.latest.reads j in
      let test : (not (eqb (get_or b.latest j 0) 0) && eqb (get_or b.point (get_or b.latest j 0) 0) 0) ≡ (not (eqb c 0) && eqb (g.point c) 0) =
      rw (is, m.point.reads c) in
      either_way (not (eqb c 0) && eqb (g.point c) 0)
      (λ e.
      rw (test ∙ e, e)
      (record {
        latest = m.latest;
        within = m.within;
        own = m.own;
        result = m.result;
        last = m.last;
        point = rw is (written c now now m.point (m.within j) refl);
        list = rw (is, m.list);
      }))
      (λ e. rw (test ∙ e, e) (record { latest = m.latest; within = m.within; own = m.own; result = m.result; last = m.last; point = m.point; list = m.list }))

  ends_matches : (now i c result : ℕ) → c ≡ g.latest i → Matches (Book.call_ends now c result b) (ends now i result g)
  ends_matches now i c result e =
      let small : c < 1025 = omega (arith, e, m.within i) in
      record {
        latest = m.latest;
        within = m.within;
        own = m.own;
        result = rw (← e) (written c result result m.result small refl);
        last = rw (← e) (written c now now m.last small refl);
        point = m.point;
        list = m.list;
      }

  idles_matches : Matches (Book.idles b) g
  idles_matches = record { latest = m.latest; within = m.within; own = m.own; result = m.result; last = m.last; point = m.point; list = m.list }

  -- an operation of station i, for call e on offer or its latest one
  module _ (now i e : ℕ) (o : Call) where
    -- the call that it is for is the station's latest then
    call_is : (rests : Bool) → cond rests e (get_or b.latest i 0) ≡ (opening rests now e i o g).latest i
    call_is true = sym (upd_same g.latest i e)
    call_is false = m.latest.reads i

    acts_matches : (rests : Bool) (d n : ℕ) → i < 33 → e < 1025 → n ≡ (opening rests now e i o g).own ((opening rests now e i o g).latest i) + 1
        → Matches (Book.acts rests i (cond rests e (get_or b.latest i 0)) d n b) (acts rests now e i o g)
    acts_matches true d n inside small q =
        let h = upd_same g.latest i e in
        record {
          latest = written i e e m.latest inside refl;
          within = upd_all g.latest i e (λ j c. c < 1025) small (λ j ne. m.within j);
          own =
              rw (h, ← set-set b.own e 0 n) (written e n (upd g.own e 0 e + 1) (written e 0 0 m.own small refl) small (rw h at q));
          result = m.result;
          last = m.last;
          point = m.point;
          list = m.list;
        }
    acts_matches false d n inside small q =
        record {
          latest = m.latest;
          within = m.within;
          own = rw (m.latest.reads i) (written (g.latest i) n (g.own (g.latest i) + 1) m.own (m.within i) q);
          result = m.result;
          last = m.last;
          point = m.point;
          list = m.list;
        }

pub all_enter_matches : {b : Book} {g : Journal} (now : ℕ) (js : List ℕ) → Matches b g → Matches (Book.all_enter now js b) (all_enter now js g)
unfolding Book.all_enter all_enter
all_enter_matches now [] m = m
all_enter_matches {b = b} {g = g} now (j ∷ js) m = all_enter_matches {b = Book.enters now j b} {g = enters now j g} now js (enters_matches m now j)

-- one turn for call e on offer: `own` is what a call that goes on has had then
module _ {b : Book} {g : Journal} (m : Matches b g) (table : List ℕ) (w : Bench) (now e own : ℕ) (u : Turn) (small : e < 1025) where
  abbrev i : ℕ
  i = u.station

  abbrev rests : Bool
  rests = at_rest (station_at w i).place

  abbrev o : Call
  o = call u.kind u.a u.b

  -- own turns before it, of the call that it is for
  abbrev pub had : ℕ
  had = (opening rests now e i o g).own ((opening rests now e i o g).latest i)

  pub noted_matches : (y : Answer) → i < 33 → (y ≡ Going → own ≡ had + 1) → ((result took : ℕ) → y ≡ Ended result took → took ≡ had + 1)
      → Matches (noted table w now i (call_for (station_at w i).place e (get_or b.latest i 0)) own y b) (logged w now e u y g)
  unfolding noted logged
  noted_matches Idle inside going ended = idles_matches m
  noted_matches Going inside going ended = all_enter_matches now (points_in w i Going) (acts_matches m now i e o rests _ own inside small (going refl))
  noted_matches (Ended result took) inside going ended =
      let js = points_in w i (Ended result took) in
      let a = all_enter_matches now js (acts_matches m now i e o rests (call_after table i (cond rests e (get_or b.latest i 0))) took inside small (ended result took refl)) in
      ends_matches a now i _ result (call_is m now i e o rests ∙ sym (ap (λ (f : ℕ → ℕ). f i) (enter_all now js (acts rests now e i o g)).latest))
  noted_matches (Refused number) inside going ended = m

-- a station that begins a call has its next one on offer then
acts_upcoming : (rests : Bool) (i c d n : ℕ) (b : Book) → (Book.acts rests i c d n b).upcoming ≡ cond rests (set b.upcoming i d) b.upcoming
acts_upcoming true i c d n b = refl
acts_upcoming false i c d n b = refl

enter_upcoming : (now : ℕ) (js : List ℕ) (b : Book) → (Book.all_enter now js b).upcoming ≡ b.upcoming
enter_upcoming now js b = ap (λ (z : Book). z.upcoming) (sym (Rows.enter_all now js b))

pub noted_upcoming : (table : List ℕ) (w : Bench) (now i c own : ℕ) (y : Answer) (b : Book)
    → (noted table w now i c own y b).upcoming ≡ cond (operates y && at_rest (station_at w i).place) (set b.upcoming i (call_after table i c)) b.upcoming
unfolding noted
noted_upcoming table w now i c own Idle b = refl
noted_upcoming table w now i c own Going b =
    enter_upcoming now (points_in w i Going) (Book.acts (at_rest (station_at w i).place) i c (call_after table i c) own b)
    ∙ acts_upcoming (at_rest (station_at w i).place) i c (call_after table i c) own b
noted_upcoming table w now i c own (Ended result took) b =
    enter_upcoming now (points_in w i (Ended result took)) (Book.acts (at_rest (station_at w i).place) i c (call_after table i c) took b)
    ∙ acts_upcoming (at_rest (station_at w i).place) i c (call_after table i c) took b
noted_upcoming table w now i c own (Refused number) b = refl
