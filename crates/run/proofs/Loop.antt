-- The run loop's invariant, and that one more turn keeps it. Assumes nothing.
use mathlib.Core.Path.{◌≡◌, refl, ◌∙◌, sym, ap}
use mathlib.Core.Logic.{⊎_elim}
use mathlib.Core.Bool.{Bool, true, false, cond, ◌&&◌}
use mathlib.Core.List.{List}
use Prim.Native.Nat.{ℕ, ◌+◌, ◌<◌, ◌≤◌}
use native.Mathlib.Omega.{arith}
use native.Mathlib.Numerals.{add-one}
use borrow.Author.Tests.{eqb-true}
use lib.Dec.{eqb}
use lib.ListN.{length, get_or, set, drop}
use lib.Seq.{drop-cons, drop-length, get_or-set_same}
use Rattle.std.specs.Option.{unwrap_or}
use Rattle.std.proofs.lemmas.Option.{none-some}
use Rattle.rules.proofs.Facts.{either_way, and_left, and_right}
use Rattle.method.specs.declared.Place.{Place}
use Rattle.method.specs.declared.Place.TheVariants.{Rest, At11, At12, At13, At14, At15, At16, At18, At19, At20}
use Rattle.method.specs.declared.Call.{Call}
use Rattle.method.specs.declared.Station.{Station}
use Rattle.method.specs.declared.Answer.{Answer}
use Rattle.method.specs.declared.Answer.TheVariants.{Idle, Going, Ended, Refused}
use Rattle.method.specs.Record.{at_rest, resting}
use Rattle.method.specs.Effect.{raises}
use Rattle.method.specs.Record as Answers
use Rattle.reach.specs.declared.Moved.{Moved}
use Rattle.reach.specs.Step.{count_limit}
use Rattle.reach.specs.Reach.{reaching, move_of}
use Rattle.bench.specs.declared.Bench.{Bench}
use Rattle.bench.specs.Record.{station_at}
use Rattle.bench.specs.Record.{turned as benchTurned}
use Rattle.bench.specs.Turn.{turn_of}
use Rattle.bench.proofs.InPlace.{is_turn}
use Rattle.bench.specs.Promise.{turn_by}
use Rattle.bench.specs.Sound.{sound}
use Rattle.bench.proofs.Sounds.{Stands, facts, ready_at}
use Rattle.bench.proofs.Bridge.{taken, put_back}
use Rattle.bench.proofs.Promised.{turn_sound}
use Rattle.run.specs.declared.Tally.{Tally}
use Rattle.run.specs.declared.Errand.{Errand}
use Rattle.run.specs.declared.Ledger.{Ledger}
use Rattle.run.specs.declared.Operation.{Operation}
use Rattle.run.specs.Calls.{offer, offering, on_offer, call_for, errand_of, errand_by, operation_of, waits}
use Rattle.run.specs.Book.{Book, idles, finishes, unended}
use Rattle.card.specs.declared.Claim.{Claim}
use Rattle.run.specs.Ledger.{Takes, ClaimWithin, Within}
use Rattle.std.specs.Prelude.{Option, None, Some}
use Rattle.run.specs.Row.{by_station, size_of, start_of, part_of, book_in, notes_in, RowFits, Becomes, HasPlaces}
use Rattle.run.specs.Run.{Run, noted, step_run, run_from}
use Rattle.run.specs.Drive.{Good, NotesOf}
use Rattle.run.proofs.Written.{read}
use Rattle.run.proofs.Books.{same_change}
use Rattle.run.proofs.Steps.{same_offer, idle_turn, acting, ended_noted, going_noted}
use Rattle.run.proofs.After.{notes_are, fits_after, notes_after, counts_after}

abbrev pub state : Bench → ℕ → Book → Run
state w k b = record { bench = w; turns = k; book = b }

-- after k turns, from the start s₀ of the run
pub record Kept (n : ℕ) (start : Run) (table turns : List ℕ) (w : Bench) (row : List ℕ) (s : Tally) (k : ℕ) : Type 0 where
  pub count : k ≤ length turns
  pub is_sound : sound w ≡ true
  pub same : w.n ≡ n
  pub fits : RowFits row s
  pub notes : NotesOf table w (notes_in row s)
  pub idle : s.idle ≤ k
  pub begun : s.begun ≤ k
  pub ended : s.ended ≤ k
  pub run : run_from table (state w k (book_in row s)) (drop k turns) ≡ run_from table start turns

one_more : (table turns : List ℕ) (s : Run) (k : ℕ) → k < length turns → run_from table s (drop k turns) ≡ run_from table (step_run table s (get_or turns k 0)) (drop (k + 1) turns)
unfolding run_from
one_more table turns s k h = ap (run_from table s) (drop-cons turns k 0 h) ∙ ap (λ j. run_from table (step_run table s (get_or turns k 0)) (drop j turns)) (sym (add-one k))

-- after the last turn it is the run
pub all_turned : (n : ℕ) (start : Run) (table turns : List ℕ) (w : Bench) (row : List ℕ) (s : Tally) (k : ℕ) → Kept n start table turns w row s k → length turns ≤ k
    → state w (length turns) (book_in row s) ≡ run_from table start turns
unfolding run_from
all_turned n start table turns w row s k kept h =
    let e : length turns ≡ k = omega (arith, kept.count) in
    ap (λ j. state w j (book_in row s)) e
    ∙ sym (ap (run_from table (state w k (book_in row s))) (ap (λ j. drop j turns) (sym e) ∙ drop-length turns)) ∙ kept.run

-- what a station waits for fits a word
pub s_small : (w : Bench) (i : ℕ) → sound w ≡ true → i < by_station → (station_at w i).s ≤ 4294967292
s_small w i s h = (ready_at w i s h).1.1.0

-- the station of a saved claim is one of the bench
saved : (p : Place) (n : ℕ) (t : Station) → Stands count_limit n p t → t.saw.pid ≤ n
saved Rest n t k = omega arith
saved At11 n t k = omega arith
saved At12 n t k = omega arith
saved At13 n t k = omega arith
saved At14 n t k = omega arith
saved At15 n t k = omega arith
saved At16 n t k = omega arith
saved At18 n t k = omega arith
saved At19 n t k = omega arith
saved At20 n t k = omega arith

claimed : (raised : Bool) (saw : Claim) → saw.pid < by_station → ClaimWithin (cond raised (Some saw) None)
claimed true saw h = h
claimed false saw h = tt

module _ (n : ℕ) (start : Run) (table turns : List ℕ) (w : Bench) (row : List ℕ) (s : Tally) (k : ℕ)
    (kept : Kept n start table turns w row s k) (more : k < length turns) (good : Good n table turns) (i : ℕ) (is : i ≡ get_or turns k 0) where
  abbrev t : Station
  t = station_at w i

  abbrev p : Place
  p = t.place

  abbrev b : Book
  b = book_in row s

  abbrev d : ℕ
  d = get_or b.upcoming i 0

  abbrev l : ℕ
  l = get_or b.latest i 0

  pub low : 1 ≤ i
  low = rw is (good.turn k more).0

  pub high : i ≤ w.n
  high = rw (is, kept.same) (good.turn k more).1

  pub few : w.n < 33
  few = omega (arith, (facts w kept.is_sound).head.0.1.0)

  pub inside : i < by_station
  inside = omega (arith, high, few)

  abbrev e : Errand
  e = errand_by p (k + 1) i d l

  -- the errand as the row has it, if there is one
  module _ (r : Option Errand) (found : r ≡ errand_of p (k + 1) i (get_or row (5191 + i) 0) (get_or row (5125 + i) 0)) where
    in_book : r ≡ errand_of p (k + 1) i d l
    unfolding start_of size_of
    in_book =
        found ∙ ap (λ x. errand_of p (k + 1) i x (get_or row (5125 + i) 0)) (sym (read row 7 i inside))
        ∙ ap (errand_of p (k + 1) i d) (sym (read row 5 i inside))

    pub is_idle : r ≡ None → (at_rest p && eqb d 0) ≡ true
    is_idle none = either_way (at_rest p && eqb d 0) (λ t. t) (λ f. absurd (none-some e (sym none ∙ in_book ∙ rw f refl)))

    pub errand_is : (x : Errand) → r ≡ Some x → x ≡ e
    errand_is x some =
        either_way (at_rest p && eqb d 0)
        (λ t. absurd (none-some x (sym (in_book ∙ rw t refl) ∙ some)))
        (λ f.
        let same : Some x ≡ Some e = sym some ∙ (in_book ∙ rw f refl) in
        ap (λ y. unwrap_or y e) same)

  has_places : HasPlaces e
  has_places = record {
    station = inside;
    call =
        either_way (at_rest p)
        (λ e. rw e (⊎_elim (λ z. omega arith) (λ m. omega (arith, m.1, good.calls)) (kept.notes.mine i inside)))
        (λ e. rw e (kept.fits.within i));
    turn = omega arith;
  }

  -- what the ledger asks of a turn
  pub may_take : (ledger : Ledger) (errand : Errand) → ledger.row.now ≡ row → ledger.tally ≡ s → errand ≡ e → Takes ledger errand
  may_take ledger errand row_is tally_is errand_is =
      record {
        fits = rw (row_is, tally_is) kept.fits;
        places = rw errand_is has_places;
        idle = rw tally_is (omega (arith, kept.idle, good.few));
        begun = rw tally_is (omega (arith, kept.begun, good.few));
        ended = rw tally_is (omega (arith, kept.ended, good.few));
      }

  -- a station at rest with no call left leaves the bench as it was, and counts an idle turn
  pub after_idle : (row' : List ℕ) (s' : Tally) → (at_rest p && eqb d 0) ≡ true → Becomes row s idles row' s' → Kept n start table turns w row' s' (k + 1)
  unfolding noted
  after_idle row' s' both a =
      let rests = and_left (at_rest p) (eqb d 0) both in
      let none = eqb-true d 0 (and_right (at_rest p) (eqb d 0) both) in
      let book = ap (λ z. z.book) a.notes in
      let step : step_run table (state w k b) i ≡ state w (k + 1) (idles b) =
      ap (λ z. state z.bench (k + 1) (noted table w (k + 1) i (call_for p d l) (station_at z.bench i).own z.answer b))
      (idle_turn w table i d kept.is_sound low high rests none) in
      let m = kept.notes in
      record {
        count = omega arith;
        is_sound = kept.is_sound;
        same = kept.same;
        fits = a.fits;
        notes = rw a.notes (record { stations = m.stations; mine = m.mine; after = m.after; waiting = m.waiting });
        idle = omega (arith, ap (λ z. z.idle) book, kept.idle);
        begun = omega (arith, ap (λ z. z.begun) book, kept.begun);
        ended = omega (arith, ap (λ z. z.ended) book, kept.ended);
        run =
            ap (λ z. run_from table z (drop (k + 1) turns)) (ap (state w (k + 1)) book ∙ sym step) ∙ ap (λ j. run_from table (step_run table (state w k b) j) (drop (k + 1) turns)) is
            ∙ sym (one_more table turns (state w k b) k more) ∙ kept.run;
      }

  module _ (errand : Errand) (errand_is : errand ≡ e) (o : Call) (x : Answer) (w' : Bench) (offers : o ≡ offer table (cond errand.rests errand.call 0)) (moves : benchTurned x w' ≡ turn_of w i o.kind o.a o.b) where
    turned : benchTurned x w' ≡ turn_by w (offering table i (on_offer p d))
    turned = moves ∙ ap (λ z. turn_of w i z.kind z.a z.b) (offers ∙ ap (λ y. offer table (cond y.rests y.call 0)) errand_is ∙ ap (offer table) (same_offer p d l))

    -- the station's record alone is another one
    m : Moved
    m = move_of (taken w i (reaching p i t)) o.kind o.a o.b

    abbrev ht : Station
    ht = station_at w' i

    put : w' ≡ (put_back w i (reaching p i t) m).bench
    unfolding m
    put = ap (λ z. z.bench) (moves ∙ sym (is_turn w i kept.is_sound (λ z. omega arith) high (reaching p i t) refl m o.kind o.a o.b refl))

    moved_is : ht ≡ m.reach.station
    moved_is = ap (λ z. station_at z i) put ∙ get_or-set_same w.stations i m.reach.station (resting 0) (omega (arith, inside, kept.notes.stations))

    stations : w'.stations ≡ set w.stations i ht
    stations = ap (λ z. z.stations) put ∙ ap (set w.stations i) (sym moved_is)

    same_n : w'.n ≡ w.n
    same_n = ap (λ z. z.n) put

    -- what it asks of an operation
    pub within : (o' : Operation) → o' ≡ operation_of t w.v ht.own w'.n → Within o'
    within o' o_is =
        let q : t.saw.pid ≤ w.n = saved p w.n t ((facts w kept.is_sound).station i inside).stands in
        rw o_is (record { claim = claimed (raises p w.v t) t.saw (omega (arith, q, few)); few = omega (arith, few, same_n) })

    -- a turn that is not idle has a call on offer
    begins : (x ≡ Idle → ⊥) → at_rest p ≡ true → 0 < d
    begins h e = acting w table i d kept.is_sound low high e (λ q. h (ap (λ z. z.answer) turned ∙ q))

    noted_end : (result took : ℕ) → x ≡ Ended result took → (z : Book)
        → finishes (errand_by p (k + 1) i d l) (record { result = result; own = took }) (part_of row 8) z ≡ noted table w (k + 1) i (call_for p d l) ht.own x z
    noted_end result took e z =
        ended_noted w table (part_of row 8) (part_of row 6) i d l (k + 1) kept.notes.after (kept.notes.mine i inside) result took ht.own z
        (begins (λ q. let n : ◌≡◌ {A = ℕ} 2 0 = ap (λ y. (Answers.told y).case) (sym e ∙ q) in omega arith))
        ∙ ap (λ y. noted table w (k + 1) i (call_for p d l) ht.own y z) (sym e)

    noted_by : (y : Answer) → ((result took : ℕ) → y ≡ Ended result took → ⊥) → x ≡ y → (z : Book)
        → unended y (errand_by p (k + 1) i d l) (operation_of t w.v ht.own w.n) (part_of row 8) (part_of row 6) z ≡ noted table w (k + 1) i (call_for p d l) ht.own y z
    unfolding unended noted
    noted_by Idle f e z = refl
    noted_by Going f e z =
        going_noted w table (part_of row 8) (part_of row 6) i d l (k + 1) kept.notes.after (kept.notes.mine i inside) kept.notes.waiting few ht.own z
        (begins (λ q. let n : ◌≡◌ {A = ℕ} 1 0 = ap (λ y. (Answers.told y).case) (sym e ∙ q) in omega arith))
    noted_by (Ended result took) f e z = absurd (f result took refl)
    noted_by (Refused number) f e z = refl

    -- the step of the run
    stepped : (b' : Book) → b' ≡ noted table w (k + 1) i (call_for p d l) ht.own x b → state w' (k + 1) b' ≡ step_run table (state w k b) i
    stepped b' e =
        ap (state w' (k + 1)) e
        ∙ ap (λ z. state z.bench (k + 1) (noted table w (k + 1) i (call_for p d l) (station_at z.bench i).own z.answer b)) turned

    -- the invariant holds after one more turn
    kept_next : (row' : List ℕ) (s' : Tally) → Becomes row s (noted table w (k + 1) i (call_for p d l) ht.own x) row' s'
        → Kept n start table turns w' (set row' (5158 + i) (waits ht)) s' (k + 1)
    kept_next row' s' a =
        let c = counts_after w w' table row row' s s' (k + 1) i (call_for p d l) ht.own x ht kept.fits kept.notes a stations inside in
        let e = ap (λ z. z.book) (notes_are w w' table row row' s s' (k + 1) i (call_for p d l) ht.own x ht kept.fits kept.notes a stations inside) in
        record {
          count = omega arith;
          is_sound = ap (λ z. sound z.bench) turned ∙ turn_sound w (offering table i (on_offer p d)) kept.is_sound;
          same = same_n ∙ kept.same;
          fits = fits_after w w' table row row' s s' (k + 1) i (call_for p d l) ht.own x ht kept.fits kept.notes a stations inside;
          notes = notes_after w w' table row row' s s' (k + 1) i (call_for p d l) ht.own x ht kept.fits kept.notes a stations inside;
          idle = omega (arith, c.0, kept.idle);
          begun = omega (arith, c.1, kept.begun);
          ended = omega (arith, c.2, kept.ended);
          run = ap (λ z. run_from table z (drop (k + 1) turns)) (stepped _ e) ∙ ap (λ j. run_from table (step_run table (state w k b) j) (drop (k + 1) turns)) is ∙ sym (one_more table turns (state w k b) k more) ∙ kept.run;
        }

    -- a turn that did not end its call, by what the book then holds
    pub after_going : (o' : Operation) (waiting : ℕ) (r : Tally) (row' : List ℕ) → ((result took : ℕ) → x ≡ Ended result took → ⊥)
        → o' ≡ operation_of t w.v ht.own w'.n → waiting ≡ waits ht → Becomes row s (unended x errand o' (part_of row 8) (part_of row 6)) row' r
        → Kept n start table turns w' (set row' (5158 + i) waiting) r (k + 1)
    after_going o' waiting r row' f o_is waits_is a =
        rw waits_is
        (kept_next row' r
        (same_change
        (λ z.
        ap (λ y. unended x y o' (part_of row 8) (part_of row 6) z) errand_is
        ∙ ap (λ y. unended x e y (part_of row 8) (part_of row 6) z) (o_is ∙ ap (operation_of t w.v ht.own) same_n) ∙ noted_by x f refl z) a))

    -- and one that ended it
    pub after_end : (result took waiting : ℕ) (r : Tally) (row' : List ℕ) → x ≡ Ended result took → waiting ≡ waits ht
        → Becomes row s (finishes errand (record { result = result; own = took }) (part_of row 8)) row' r
        → Kept n start table turns w' (set row' (5158 + i) waiting) r (k + 1)
    after_end result took waiting r row' x_is waits_is a =
        rw waits_is
        (kept_next row' r
        (same_change (λ z. ap (λ y. finishes y (record { result = result; own = took }) (part_of row 8) z) errand_is ∙ noted_end result took x_is z) a))
