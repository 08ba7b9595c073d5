-- Each turn of a run keeps its log pinned to the turns: first and last turns, own turns and points. Assumes nothing.
use mathlib.Core.Path.{◌≡◌, refl, ◌∙◌, sym, ap, subst}
use mathlib.Core.Bool.{Bool, true, false, cond, ◌&&◌, false≢true}
use mathlib.Core.List.{List, ◌++◌, map}
use Prim.Native.Nat.{ℕ, suc, ◌+◌, ◌≤◌}
use native.Mathlib.Omega.{arith}
use borrow.Author.Tests.{eq-eqb, ne_eqb}
use lib.Dec.{eqb}
use Rattle.rules.proofs.Facts.{either_way, and_left, and_right}
use Rattle.method.specs.declared.Call.{Call}
use Rattle.method.specs.declared.Answer.{Answer}
use Rattle.method.specs.declared.Answer.TheVariants.{Idle, Going, Ended, Refused}
use Rattle.method.specs.Record.{at_rest, call, told}
use Rattle.method.specs.Operation.{operates}
use Rattle.method.specs.Update.{upd}
use Rattle.method.proofs.Upd.{upd_same, upd_other, upd_all}
use Rattle.bench.specs.declared.Bench.{Bench}
use Rattle.bench.specs.Record.{station_at}
use Rattle.bench.specs.Points.{points_in}
use Rattle.bench.specs.Promise.{Turn, after}
use Rattle.order.specs.Steps.{Step, step_at, station_of, answer_of, begins_call, latest_in, call_in, operations_for, pointed, effects}
use Rattle.order.specs.Pinned.{Pinned}
use Rattle.order.specs.Journal.{Journal, log_in, no_calls, ends, acts, entered, logged}
use Rattle.order.proofs.Kept.{Unbegun, no_end_yet}
use Rattle.order.proofs.Entered.{Entered}
use Rattle.order.proofs.Parts.{Firsts, Lasts, Pointed, none_begins, one_begins, none_ends, one_ends, points_now}
use Rattle.order.proofs.Turns.{Held, own_turn, turn_enters, turn_mine, turn_rest}
use Rattle.order.proofs.Same.{Same, enter_all, opening, opens}

-- what an operation of station i for the call l makes of a journal
record Did (i l : ℕ) (g g' : Journal) : Type 0 where
  some : 1 ≤ l
  going : g.last l ≡ 0
  latest : g'.latest i ≡ l
  begun : 1 ≤ g'.first l
  others : (d : ℕ) → (d ≡ l → ⊥) → g'.first d ≡ g.first d
  own : (d : ℕ) → g'.own d ≡ upd g.own l (g.own l + 1) d
  last : g'.last ≡ g.last
  result : g'.result ≡ g.result

-- the call on offer that a station at rest begins, or the one that it is in
did : (now c i : ℕ) (o : Call) (g : Journal) (rests : Bool) → 1 ≤ now → (rests ≡ true → (1 ≤ c) × ((g.last c ≡ 0) × (g.own c ≡ 0)))
    → (rests ≡ false → (1 ≤ g.latest i) × ((1 ≤ g.first (g.latest i)) × (g.last (g.latest i) ≡ 0)))
    → Did i (cond rests c (g.latest i)) g (acts rests now c i o g)
did now c i o g true t free busy =
    let f = free refl in
    let own = g.own in
    let again : (d : ℕ) → upd (upd own c 0) c (upd own c 0 c + 1) d ≡ upd own c (own c + 1) d =
    upd_all (upd own c 0) c (upd own c 0 c + 1) (λ d y. y ≡ upd own c (own c + 1) d)
    (rw (upd_same own c 0, upd_same own c (own c + 1)) (omega (arith, f.1.1)))
    (λ d ne. upd_other own c 0 d ne ∙ sym (upd_other own c (own c + 1) d ne)) in
    record {
      some = f.0;
      going = f.1.0;
      latest = upd_same g.latest i c;
      begun = rw (upd_same g.first c now) t;
      others = λ d ne. upd_other g.first c now d ne;
      own = λ d. rw (upd_same g.latest i c) (again d);
      last = refl;
      result = refl;
    }
did now c i o g false t free busy =
    let b = busy refl in
    record {
      some = b.0;
      going = b.1.1;
      latest = refl;
      begun = b.1.0;
      others = λ d ne. refl;
      own = λ d. refl;
      last = refl;
      result = refl;
    }

-- points leave that
did_still : {i l : ℕ} {g g₁ g₂ : Journal} → Did i l g g₁ → Same g₂ g₁ → Did i l g g₂
did_still {i} {l} d e =
    record {
      some = d.some;
      going = d.going;
      latest = rw e.latest d.latest;
      begun = rw e.first d.begun;
      others = λ j ne. rw e.first (d.others j ne);
      own = λ j. rw e.own (d.own j);
      last = e.last ∙ d.last;
      result = e.result ∙ d.result;
    }

-- the log is pinned, and the journal has the latest calls and the calls in order of effect
pub record Pins (steps : List Step) (now : ℕ) (g : Journal) : Type 0 where
  pub firsts : Firsts steps now g.first g.station g.call
  pub lasts : Lasts steps now g.last g.result g.own
  pub points : Pointed steps now g.point
  pub own : (c : ℕ) → g.own c ≡ operations_for steps now c
  pub idle : (c : ℕ) → g.first c ≡ 0 → g.own c ≡ 0
  pub latest : (i : ℕ) → g.latest i ≡ latest_in steps now i
  pub list : g.list ≡ effects steps now

-- a turn that does no operation counts for no call
none_more : (acts same : Bool) (n : ℕ) → acts ≡ false → n ≡ n + cond (acts && same) 1 0
none_more true same n e = absurd (false≢true (sym e))
none_more false same n e = omega arith

-- what the operation of a turn adds to it
record Worked (steps : List Step) (now : ℕ) (g : Journal) : Type 0 where
  lasts : Lasts steps now g.last g.result g.own
  own : (c : ℕ) → g.own c ≡ operations_for steps now c
  idle : (c : ℕ) → g.first c ≡ 0 → g.own c ≡ 0

module _ (steps : List Step) (now : ℕ) {g : Journal} (p : Pins steps now g) where
  abbrev s : Step
  s = step_at steps (suc now)

  abbrev i : ℕ
  i = station_of s

  abbrev rests : Bool
  rests = at_rest (station_at s.bench i).place

  abbrev l : ℕ
  l = cond rests s.offer (g.latest i)

  abbrev o : Call
  o = call s.turn.kind s.turn.a s.turn.b

  -- the latest calls after the turn, where it begins one or none
  latest_by : (b : Bool) (j : ℕ) → (opening b (suc now) s.offer i o g).latest j ≡ cond (b && eqb j i) s.offer (latest_in steps now j)
  unfolding upd
  latest_by true j = rw (p.latest j)
  latest_by false j = p.latest j

  latest_now : (j : ℕ) → (opening (begins_call s) (suc now) s.offer i o g).latest j ≡ latest_in steps (suc now) j
  unfolding latest_in
  latest_now j = latest_by (begins_call s) j

  -- the call that an operation is for
  opening_is : (acts rests : Bool) → acts ≡ true → (opening (acts && rests) (suc now) s.offer i o g).latest i ≡ cond rests s.offer (g.latest i)
  opening_is true true e = upd_same g.latest i s.offer
  opening_is true false e = refl
  opening_is false _ e = absurd (false≢true e)

  call_is : operates (answer_of s) ≡ true → call_in steps (suc now) ≡ l
  call_is e = sym (latest_now i) ∙ opening_is (operates (answer_of s)) rests e

  firsts_now : (b : Bool) → begins_call s ≡ b → (b ≡ true → Unbegun g s.offer)
      → let g' = opening b (suc now) s.offer i o g in
      Firsts steps (suc now) g'.first g'.station g'.call
  firsts_now true e free = one_begins steps now p.firsts e (free refl).0 (free refl).1
  firsts_now false e free = none_begins steps now p.firsts e

  no_work : operates (answer_of s) ≡ false → Worked steps (suc now) g
  unfolding operations_for
  no_work e =
      record {
        lasts = none_ends steps now p.lasts (λ r n q. false≢true (sym e ∙ ap operates q)) (λ c h. refl);
        own = λ c. p.own c ∙ none_more (operates (answer_of s)) (eqb c (call_in steps (suc now))) (operations_for steps now c) e;
        idle = p.idle;
      }

  module _ (e : operates (answer_of s) ≡ true) {g' : Journal} (d : Did i l g g') where
    other : (c : ℕ) → (c ≡ l → ⊥) → g'.own c ≡ g.own c
    other c ne = d.own c ∙ upd_other g.own l (g.own l + 1) c ne

    own_now : (c : ℕ) → g'.own c ≡ operations_for steps (suc now) c
    unfolding operations_for
    own_now c =
        d.own c ∙ rw (e, call_is e)
        (upd_all g.own l (g.own l + 1) (λ c y. y ≡ operations_for steps now c + cond (eqb c l) 1 0)
        (rw (eq-eqb l l refl) (omega (arith, p.own l)))
        (λ c ne. rw (ne_eqb c l ne) (omega (arith, p.own c))) c)

    idle_now : (c : ℕ) → g'.first c ≡ 0 → g'.own c ≡ 0
    idle_now c z =
        let ne : c ≡ l → ⊥ = λ q. let f = ap g'.first (sym q) ∙ z in omega (arith, d.begun) in
        other c ne ∙ p.idle c (sym (d.others c ne) ∙ z)

    works_on : ((r n : ℕ) → answer_of s ≡ Ended r n → ⊥) → Worked steps (suc now) g'
    works_on never =
        record {
          lasts =
              rw (d.last, d.result)
              (none_ends steps now p.lasts never (λ c h. other c (λ q. let f = ap g.last q ∙ d.going in omega arith)));
          own = own_now;
          idle = idle_now;
        }

    works_last : (r n : ℕ) → answer_of s ≡ Ended r n → n ≡ g.own l + 1 → Worked steps (suc now) (ends (suc now) i r g')
    works_last r n q took =
        record {
          lasts =
              rw (d.last, d.result, d.latest)
              (one_ends steps now p.lasts l r n q (call_is e) d.some d.going
              (d.own l ∙ upd_same g.own l (g.own l + 1) ∙ sym took) other);
          own = own_now;
          idle = idle_now;
        }

-- and by the answer of the turn
logged_works : (steps : List Step) (now : ℕ) {g : Journal} (p : Pins steps now g) (y : Answer)
    → let s = step_at steps (suc now) in
    let w = s.bench in
    let i = station_of s in
    let rests = at_rest (station_at w i).place in
    answer_of s ≡ y → (operates y ≡ true → Did i (cond rests s.offer (g.latest i)) g (entered w (suc now) s.offer s.turn y g))
    → ((r n : ℕ) → y ≡ Ended r n → n ≡ g.own (cond rests s.offer (g.latest i)) + 1)
    → Worked steps (suc now) (logged w (suc now) s.offer s.turn y g)
unfolding logged
logged_works steps now p Idle e d took = no_work steps now p (ap operates e)
logged_works steps now p Going e d took =
    works_on steps now p (ap operates e) (d refl) (λ r n q. let z = ap (λ y. (told y).case) (sym e ∙ q) in omega arith)
logged_works steps now p (Ended r n) e d took = works_last steps now p (ap operates e) (d refl) r n e (took r n refl)
logged_works steps now p (Refused number) e d took = no_work steps now p (ap operates e)

recast_firsts : {steps : List Step} {now : ℕ} {first first' station station' : ℕ → ℕ} {what what' : ℕ → Call}
    → first' ≡ first → station' ≡ station → what' ≡ what → Firsts steps now first station what → Firsts steps now first' station' what'
recast_firsts a b c f = rw (a, b, c) f

-- the own turns of the call that an operation is for are its station's
had_own : {x now : ℕ} {w : Bench} {g : Journal} (h : Held x now w g) (c : ℕ) (u : Turn)
    → let i = u.station in
    let rests = at_rest (station_at w i).place in
    (rests ≡ true → g.own c ≡ 0) → g.own (cond rests c (g.latest i)) ≡ (station_at w i).own
had_own {x} {now} {w} {g} h c u none =
    let i = u.station in
    let rests = at_rest (station_at w i).place in
    either_way rests
    (λ e. rw e (none e ∙ sym (turn_rest {w = w} h u e)))
    (λ e. rw e (turn_mine {w = w} h u e).turns)

-- a turn keeps the log pinned
pub turn_pins : {x : ℕ} (steps : List Step) (now : ℕ) {g : Journal} → Pins steps now g
    → let s = step_at steps (suc now) in
    let w = s.bench in
    Held x now w g → (operates (answer_of s) ≡ true → at_rest (station_at w (station_of s)).place ≡ true → Unbegun g s.offer)
    → Pins steps (suc now) (logged w (suc now) s.offer s.turn (answer_of s) g)
unfolding effects after
turn_pins {x} steps now {g} p h free =
    let s = step_at steps (suc now) in
    let w = s.bench in
    let u = s.turn in
    let c = s.offer in
    let i = u.station in
    let y = answer_of s in
    let rests = at_rest (station_at w i).place in
    let g' = logged w (suc now) c u y g in
    let opened = opens w (suc now) c u y g in
    let latest : (i : ℕ) → g'.latest i ≡ latest_in steps (suc now) i = λ i. ap (λ (f : ℕ → ℕ). f i) opened.latest ∙ latest_now steps now p i in
    let enters : Entered (suc now) (pointed steps (suc now)) g.point g'.point g.list g'.list =
    subst (λ (f : ℕ → ℕ). Entered (suc now) (map f (points_in w i y)) g.point g'.point g.list g'.list) (λ k j. latest j k) (turn_enters {w = w} h c u free) in
    let begins : operates y ≡ true → rests ≡ true → (1 ≤ c) × ((g.last c ≡ 0) × (g.own c ≡ 0)) =
    λ o r. let f = free o r in (f.0, (no_end_yet h.kept c f, p.idle c f.1)) in
    let busy : rests ≡ false → (1 ≤ g.latest i) × ((1 ≤ g.first (g.latest i)) × (g.last (g.latest i) ≡ 0)) =
    λ r. let m = turn_mine {w = w} h u r in (m.some, (m.begun, m.going)) in
    let worked =
    logged_works steps now p y refl
    (λ o. did_still (did (suc now) c i (call u.kind u.a u.b) g rests (omega arith) (begins o) busy)
    (enter_all (suc now) (points_in w i y) (acts rests (suc now) c i (call u.kind u.a u.b) g)))
    (λ r n e. sym (ap (λ y. (told y).own) e) ∙ ((own_turn {w = w} h u).ended (ap (λ y. (told y).case) e)).0 ∙ ap (λ k. k + 1) (sym (had_own {w = w} h c u (λ q. (begins (ap operates e) q).1.1)))) in
    record {
      firsts =
          recast_firsts opened.first opened.station opened.call
          (firsts_now steps now p (begins_call s) refl (λ b. free (and_left (operates y) rests b) (and_right (operates y) rests b)));
      lasts = worked.lasts;
      points = points_now steps now p.points enters;
      own = worked.own;
      idle = worked.idle;
      latest = latest;
      list = enters.lists ∙ ap (λ l. l ++ pointed steps (suc now)) p.list;
    }

pub pinned : {steps : List Step} {now : ℕ} {g : Journal} → Pins steps now g → Pinned steps now (log_in g)
pinned p =
    record {
      first = p.firsts.says;
      begun = p.firsts.begun;
      last = p.lasts.says;
      ended = p.lasts.ended;
      own = p.own;
      point = p.points.says;
      listed = p.points.listed;
    }

-- before the first turn
pub no_pins : (steps : List Step) → Pins steps 0 no_calls
unfolding operations_for latest_in effects
no_pins steps =
    record {
      firsts = record { says = λ c h. absurd (omega arith); begun = λ k low high. absurd (omega arith) };
      lasts = record { says = λ c h. absurd (omega arith); ended = λ k r n low high. absurd (omega arith) };
      points = record { says = λ c h. absurd (omega arith); listed = λ c k low high. absurd (omega arith) };
      own = λ c. refl;
      idle = λ c e. refl;
      latest = λ i. refl;
      list = refl;
    }
