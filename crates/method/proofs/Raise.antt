-- The row that raises V, 19: the call that P names has its point, then the others of that version have theirs and find their value gone. Assumes nothing.
use mathlib.Core.Path.{◌≡◌, refl, sym, ap, ◌∙◌, subst}
use mathlib.Core.Logic.{⊎_elim}
use mathlib.Core.Bool.{Bool, true, false, not, ◌&&◌, true≢false}
use mathlib.Core.List.{[], ◌∷◌, map}
use Prim.Native.Nat.{ℕ, ◌+◌, ◌≤◌, ◌<◌}
use native.Mathlib.Omega.{arith}
use native.Mathlib.Decide.{ℕ_discrete}
use borrow.Author.Tests.{eqb-true, eqb-false, eq-eqb, ne_eqb, leb-true, le-leb, not-true}
use lib.Dec.{eqb, leb}
use Rattle.rules.proofs.Facts.{either_way, and_left, and_right}
use Rattle.card.specs.declared.Halves.{Halves}
use Rattle.card.specs.declared.Claim.{Claim}
use Rattle.card.specs.Register.{halves}
use Rattle.method.specs.declared.Place.TheVariants.{At19, At20}
use Rattle.method.specs.declared.Station.{Station}
use Rattle.method.specs.Record.{num}
use Rattle.method.specs.Table.{goes}
use Rattle.method.specs.Effect.{loses, losers}
use Rattle.method.specs.Update.{upd}
use Rattle.method.specs.World.{World, put_registers, put_station}
use Rattle.method.specs.OneWord.{answer, left}
use Rattle.method.specs.Watch.{Begun, Done, Point, Phase, Watcher, point_served}
use Rattle.method.proofs.Upd.{upd_same, upd_other, upd_all}
use Rattle.method.proofs.Places.{rest_or_call, from_get}
use Rattle.method.proofs.Watched.{finds, misses, leads_to, leads_on, leads_point}
use Rattle.method.proofs.Losers.{Loses, losers_lead}
use Rattle.method.proofs.Kept.{Called, StandsIn, Kept, stands_at}
use Rattle.method.proofs.Step.{VStep, Step, keeps, raises}
use Rattle.method.proofs.Stay.{stands_stays, moved}
use Rattle.method.proofs.Seen.{truth, phase_in, late_phase, past_phase, open_phase, seen, Next}
use Rattle.method.proofs.Moves.{to20}
use Rattle.method.proofs.Effects.{Latest, latest, effect_raise}

-- the test `loses`, as facts
record Losing (word : ℕ → ℕ) (j : ℕ) (c : Claim) (i : ℕ) (t : Station) : Type 0 where
  other : i ≡ c.pid → ⊥
  on : word i ≡ word j
  inside : 11 ≤ num t.place
  version : t.s + 2 ≡ c.seq

module _ (word : ℕ → ℕ) (j : ℕ) (c : Claim) (i : ℕ) (t : Station) where
  abbrev another : Bool
  another = not (eqb i c.pid)

  abbrev same : Bool
  same = eqb (word i) (word j)

  abbrev inside : Bool
  inside = leb 11 (num t.place)

  abbrev version : Bool
  version = eqb (t.s + 2) c.seq

  losing : loses word j c i t ≡ true → Losing word j c i t
  losing e =
      let f = and_right another (same && (inside && version)) e in
      let g = and_right same (inside && version) f in
      record {
        other = eqb-false i c.pid (not-true (eqb i c.pid) (and_left another (same && (inside && version)) e));
        on = eqb-true (word i) (word j) (and_left same (inside && version) f);
        inside = leb-true 11 (num t.place) (and_left inside version g);
        version = eqb-true (t.s + 2) c.seq (and_right inside version g);
      }

  loses_so : Losing word j c i t → loses word j c i t ≡ true
  loses_so l =
      rw
      (ne_eqb i c.pid l.other, eq-eqb (word i) (word j) l.on, le-leb 11 (num t.place) l.inside, eq-eqb (t.s + 2) c.seq l.version)

-- a turn of station j, z being its word, with a version above V's
module _ {n : ℕ} {w : World} (k : Kept n w) (j : ℕ) (e : (w.st j).place ≡ At19) (up : (w.v (w.word j)).first < (w.st j).saw.seq) where
  abbrev t : Station
  t = w.st j

  abbrev z : ℕ
  z = w.word j

  -- the station that wins, and its record
  abbrev win : ℕ
  win = t.saw.pid

  abbrev x : Station
  x = w.st win

  abbrev new : Halves
  new = halves t.saw.seq t.entry.second

  abbrev v' : ℕ → Halves
  v' = upd w.v z new

  abbrev w₁ : World
  w₁ = put_registers v' w.p w.a w.r w

  v_new : v' z ≡ new
  v_new = upd_same w.v z new

  -- what is known of the station and of the winner
  h : StandsIn n w At19 j t
  h = stands_at k j e

  o : Latest w z t.saw
  o = latest k j h.saw h.got.even up

  kept : Kept n (put_station j (goes t At20) w₁)
  kept =
      let from = h.saw.from in
      moved k s j (goes t At20) (λ o. record { far = omega arith; version = o.version; count = o.count }) (λ _ _. (refl, refl))
      (to20 (omega (arith, ap (λ (x : Halves). x.first) v_new)) (stands_stays k s j At19 t refl refl h))
    where
      s : Step w v' w.p w.a w.r
      s =
          record {
            v = upd_all w.v z new (λ y v. VStep w (w.v y) v (w.p y) (w.p y)) (raises (effect_raise k j e up) refl) (λ y _. keeps refl);
            p = λ y. keeps refl;
            a = λ i. keeps refl;
            r = λ i. keeps refl;
          }

  -- a station in a call of the word
  called : (i : ℕ) → 11 ≤ num (w.st i).place → w.word i ≡ z → Called n (w.v z) i (w.st i)
  called i l on = subst (λ (y : ℕ). Called n (w.v y) i (w.st i)) on (from_get 11 (w.st i).place l (k.stations i).called)

  -- the winner's call waits, finds its value, and leaves what becomes V's
  wins : Called n (w.v z) win x
  wins = called win (omega (arith, o.contends.far)) o.word

  waits : (seen w).phase win ≡ Begun z x.call
  waits = rw o.word (open_phase x.place z (w.v z) (w.r win) x (omega (arith, o.contends.far)) (omega (arith, o.contends.version)))

  found : (w.v z).second ≡ x.call.a
  found = sym (wins.finds o.contends.version)

  written : x.call.b ≡ t.entry.second
  written = sym (from_get 12 x.place (omega (arith, o.contends.far)) (k.stations win).value) ∙ h.got.new o.count

  serves : (left (w.v z).second x.call ≡ x.call.b) × (answer (w.v z).second x.call ≡ 1)
  serves = finds (w.v z).second x.call wins.sets found

  abbrev point : Phase
  point = Done z x.call (answer (w.v z).second x.call)

  -- the watcher after the winner's point
  abbrev m₁ : Watcher
  m₁ = point_served win (seen w) (Begun z x.call)

  -- R has told no other call of the version that it won
  untold : (i : ℕ) → (i ≡ win → ⊥) → w.word i ≡ z → (w.st i).s ≡ (w.v z).first → truth (w.st i).place (w.r i) ≡ 0
  untold i other on version =
      either_way (leb 13 (num (w.st i).place))
      (λ late.
      rw late
      (⊎_elim (λ no. no)
      (⊎_elim (λ past. absurd (omega (arith, rw on at past)))
      (λ mine. absurd (other (sym (rw on at mine.1) ∙ sym (ap (λ (c : Claim). c.pid) o.same)))))
      (from_get 13 (w.st i).place (leb-true 13 (num (w.st i).place) late) (k.stations i).awaits)))
      (λ early. rw early)

  lost : (i : ℕ) → loses w.word j t.saw i (w.st i) ≡ true → Loses n m₁ i ((seen w₁).phase i)
  lost i b =
      let y = w.st i in
      let l = losing w.word j t.saw i y b in
      let d = called i l.inside l.on in
      let version : y.s ≡ (w.v z).first = omega (arith, o.full, l.version) in
      let held : m₁.words z ≡ x.call.b = upd_same (seen w).words z (left (w.v z).second x.call) ∙ serves.0 in
      let gone : m₁.words z ≡ y.call.a → ⊥ = λ q. wins.differ (sym found ∙ sym (d.finds version) ∙ sym q ∙ held) in
      let m = misses (m₁.words z) y.call d.sets gone in
      record {
        low = d.low;
        high = d.high;
        word = z;
        call = y.call;
        waits =
            upd_other (seen w).phase win point i l.other
            ∙ rw l.on (open_phase y.place z (w.v z) (w.r i) y l.inside (omega arith));
        same = m.0;
        done =
            rw l.on
            (past_phase y.place z (v' z) (w.r i) y l.inside (omega (arith, ap (λ (x : Halves). x.first) v_new))
            ∙ ap (Done z y.call) (untold i l.other l.on version ∙ sym m.1));
      }

  -- the winner is told so
  won : point ≡ (seen w₁).phase win
  won =
      let told : truth x.place (w.r win) ≡ 1 = rw (le-leb 13 (num x.place) o.contends.far) (h.tells o.returns) in
      let risen = ap (λ (x : Halves). x.first) v_new in
      rw o.word
      (ap (Done z x.call) (serves.1 ∙ sym told)
      ∙ sym (past_phase x.place z (v' z) (w.r win) x (omega (arith, o.contends.far)) (omega (arith, o.contends.version))))

  -- a call of another word or of an earlier version stays as it was
  apart : (i : ℕ) → (i ≡ win → ⊥) → loses w.word j t.saw i (w.st i) ≡ false → (seen w).phase i ≡ (seen w₁).phase i
  apart i other b =
      let y = w.st i in
      elim (ℕ_discrete (w.word i) z) [
        | no ne ↦ rw (upd_other w.v z new (w.word i) ne)
        | yes on ↦ ⊎_elim (λ rest. rw rest)
            (λ inside.
            let d = called i inside.0 on in
            let older : y.s + 2 ≡ t.saw.seq → ⊥ =
            λ q. true≢false (sym (loses_so w.word j t.saw i y (record { other = other; on = on; inside = inside.0; version = q })) ∙ b) in
            let risen = ap (λ (x : Halves). x.first) v_new in
            rw on
            (past_phase y.place z (w.v z) (w.r i) y inside.0 (omega (arith, d.begun, o.full))
            ∙ sym (past_phase y.place z (v' z) (w.r i) y inside.0 (omega (arith, d.begun)))))
            (rest_or_call y.place)
      ]

  others : (i : ℕ) → loses w.word j t.saw i (w.st i) ≡ false → m₁.phase i ≡ (seen w₁).phase i
  others i b =
      elim (ℕ_discrete i win) [ yes same ↦ rw same (upd_same (seen w).phase win point ∙ won) | no other ↦ upd_other (seen w).phase win point i other ∙ apart i other b ]

  pub raised : Next n w (Point win ∷ map Point (losers w.word j t.saw w.st n)) (put_station j (goes t At20) w₁)
  raised =
      let w₂ = put_station j (goes t At20) w₁ in
      record {
        leads =
            leads_on (Point win ∷ []) (map Point (losers w.word j t.saw w.st n)) (leads_point (seen w) win z x.call waits)
            (leads_to (seen w₂) (losers_lead n w.word j t.saw w.st m₁ (seen w₁).phase lost others)
            (upd_all (seen w).words z (left (w.v z).second x.call) (λ y a. a ≡ (v' y).second)
            (serves.0 ∙ written ∙ sym (ap (λ (x : Halves). x.second) v_new)) (λ y ne. sym (ap (λ (x : Halves). x.second) (upd_other w.v z new y ne))))
            (upd_all w.st j (goes t At20) (λ i t. (seen w₁).phase i ≡ phase_in w₁ i t)
            (late_phase t.place z (v' z) (w.r j) t At20 (omega (arith, ap num e)) (omega arith)) (λ _ _. refl)));
        kept = kept;
      }
