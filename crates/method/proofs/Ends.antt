-- The rows where a call begins or ends, 2, 5 and 20, lead on. Assumes nothing.
use mathlib.Core.Path.{◌≡◌, refl, sym, ap, ◌∙◌, subst, subst⁻¹}
use mathlib.Core.Bool.{Bool, true, false, cond, not}
use mathlib.Core.List.{List, [], ◌∷◌}
use Prim.Native.Nat.{ℕ, ◌≤◌, ◌<◌}
use native.Mathlib.Omega.{arith}
use borrow.Author.Tests.{eqb-true, eqb-false, ne_eqb, le-ltb, lt-ltb, not-true, not-false}
use lib.Dec.{eqb}
use Rattle.method.specs.declared.Place.{Place}
use Rattle.method.specs.declared.Place.TheVariants.{Rest, At20}
use Rattle.method.specs.declared.Call.{Call}
use Rattle.method.specs.declared.Station.{Station}
use Rattle.method.specs.Record.{num, call, resting}
use Rattle.method.specs.Table.{handed, begun, row5, row}
use Rattle.method.specs.Effect.{points}
use Rattle.method.specs.World.{World, Stepped, put_station, put_word, on_world, WorldTurn}
use Rattle.method.specs.OneWord.{answer, left, Agrees}
use Rattle.method.specs.Watch.{Phase, Free, Begun, Event, Begin, Point, End, put_phase}
use Rattle.method.specs.Events.{events_at}
use Rattle.method.proofs.Upd.{upd_same, upd_other, upd_all}
use Rattle.method.proofs.Watched.{Leads, leads_none, leads_to, leads_on, leads_begin, leads_end, at_once_lem, finds, misses}
use Rattle.method.proofs.Kept.{Stands, Kept, stands_at}
use Rattle.method.proofs.Step.{none}
use Rattle.method.proofs.Stay.{moved}
use Rattle.method.proofs.Seen.{phase_of, phase_in, seen, Next}
use Rattle.method.proofs.Moves.{any_word, to11, to_rest}

-- a turn of station j, z being its word
module _ {n : ℕ} {w : World} (k : Kept n w) (j : ℕ) where
  abbrev t : Station
  t = w.st j

  abbrev z : ℕ
  z = w.word j

  -- a station at rest takes a word
  pub takes : (y : ℕ) → t.place ≡ Rest → Next n w [] (put_word j y w)
  takes y e =
      record {
        leads =
            leads_to (seen (put_word j y w)) (leads_none (seen w)) (λ _. refl)
            (upd_all w.word j y (λ i x. phase_in w i (w.st i) ≡ phase_of (w.st i).place x (w.v x) (w.r i) (w.st i)) (rw e) (λ i _. refl));
        kept =
            record {
              words =
                  λ x.
                  let h = k.words x in
                  record { even = h.even; low = h.low; high = h.high; word = λ up. on x up (w.p x).pid refl; contends = h.contends; claimed = h.claimed };
              stations = upd_all w.word j y (λ i x. Stands n (w.v x) (w.p x) w.a w.r (w.st i).place i (w.st i)) own (λ i _. k.stations i);
            };
      }
    where
      own : Stands n (w.v y) (w.p y) w.a w.r t.place j t
      own = subst⁻¹ (λ (q : Place). Stands n (w.v y) (w.p y) w.a w.r q j t) e (any_word (w.v y) (w.p y) (stands_at k j e))

      -- no open P names it
      on : (x : ℕ) → (w.v x).first < (w.p x).seq → (i : ℕ) → (w.p x).pid ≡ i → (put_word j y w).word i ≡ x
      on x up =
          let far = ((k.words x).contends up).far in
          upd_all w.word j y (λ i b. (w.p x).pid ≡ i → b ≡ x)
          (λ q. absurd (omega (arith, ap (λ i. num (w.st i).place) q, ap num e))) (λ i _ q. ap w.word (sym q) ∙ (k.words x).word up)

  -- the station gets the record t', and with it the phase f
  shifts : (t' : Station) (f : Phase) → phase_in w j t' ≡ f → (i : ℕ) → (put_phase j f (seen w)).phase i ≡ (seen (put_station j t' w)).phase i
  shifts t' f e =
      upd_all w.st j t' (λ i t. (put_phase j f (seen w)).phase i ≡ phase_in w i t) (upd_same (seen w).phase j f ∙ sym e)
      (upd_other (seen w).phase j f)

  free : t.place ≡ Rest → (seen w).phase j ≡ Free
  free e = rw e

  -- 2, and 5 where the call ends
  pub ends_at_once : (o : Call) (result : ℕ) → t.place ≡ Rest → left (w.v z).second o ≡ (w.v z).second → Agrees o (answer (w.v z).second o) result
      → Next n w (Begin j z o ∷ Point j ∷ End j result ∷ []) w
  ends_at_once o result e same agrees = record { leads = at_once_lem (seen w) j z o result (free e) same agrees; kept = k }

  -- 5 where it goes on
  pub goes_past_5 : (o : Call) → t.place ≡ Rest → 1 ≤ j → j ≤ n → (o.kind ≡ 0 → ⊥) → (w.v z).second ≡ o.a → (o.a ≡ o.b → ⊥)
      → Next n w (Begin j z o ∷ []) (put_station j (begun o (w.v z).first t.c) w)
  goes_past_5 o e low high sets found differ =
      let t' = begun o (w.v z).first t.c in
      record {
        leads =
            leads_to (seen (put_station j t' w)) (leads_begin (seen w) j z o (free e)) (λ _. refl)
            (shifts t' (Begun z o) (rw (le-ltb (w.v z).first (w.v z).first (omega arith))));
        kept =
            moved k (none w) j t' (λ h. absurd (omega (arith, h.far, ap num e))) (λ _ _. (refl, refl))
            (to11 o (record { low = low; high = high; sets = sets; even = (k.words z).even; begun = omega arith; differ = differ; finds = λ _. sym found })
            (stands_at k j e));
      }

  pub ends_at_20 : t.place ≡ At20 → Next n w (End j (handed t.call.kind (w.r j).second t.call.a) ∷ []) (put_station j (resting t.c) w)
  ends_at_20 e =
      let h = stands_at k j e in
      let past = h.past in
      let result = handed t.call.kind (w.r j).second t.call.a in
      record {
        leads =
            leads_to (seen (put_station j (resting t.c) w))
            (leads_end (seen w) j z t.call (w.r j).second result (rw (e, lt-ltb t.s (w.v z).first (omega arith)))
            (λ ne. rw (ne_eqb t.call.kind 2 ne)))
            (λ _. refl) (shifts (resting t.c) Free refl);
        kept = moved k (none w) j (resting t.c) (λ o. absurd (omega (arith, o.version))) (λ _ _. (refl, refl)) (to_rest h);
      }

-- what holds of what a test chooses, by its two cases
by_test : {X : Type 0} (P : X → Type 0) (b : Bool) (x y : X) → (b ≡ true → P x) → (b ≡ false → P y) → P (cond b x y)
by_test P true x y f g = f refl
by_test P false x y f g = g refl

-- a turn of a station at rest
module _ {n : ℕ} {w : World} (k : Kept n w) (u : WorldTurn) (e : (w.st u.station).place ≡ Rest) (low : 1 ≤ u.station) (high : u.station ≤ n) where
  abbrev i : ℕ
  i = u.station

  abbrev o : Call
  o = call u.kind u.a u.b

  abbrev w₁ : World
  w₁ = put_word i u.word w

  -- the value that it reads
  abbrev y : ℕ
  y = (w₁.v (w₁.word i)).second

  abbrev Shows : Stepped → Type 0
  Shows x = Next n w (events_at Rest w.word w.st n (w.v (w.word i)) u x.answer) x.world

  taken : Next n w [] w₁
  taken = takes k i u.word e

  -- its events name the offered word, which it has taken
  follows : (f : ℕ → List Event) {w₂ : World} → Next n w₁ (f (w₁.word i)) w₂ → Next n w (f u.word) w₂
  follows f {w₂} h =
      record {
        leads = leads_on [] (f u.word) taken.leads (subst (λ (x : ℕ). Leads (seen w₁) (f x) (seen w₂)) (upd_same w.word i u.word) h.leads);
        kept = h.kept;
      }

  ended : (result : ℕ) → left y o ≡ y → Agrees o (answer y o) result → Next n w (Begin i u.word o ∷ Point i ∷ End i result ∷ []) w₁
  ended result same agrees = follows (λ x. Begin i x o ∷ Point i ∷ End i result ∷ []) (ends_at_once taken.kept i o result e same agrees)

  -- 5
  sets : (u.kind ≡ 0 → ⊥) → Shows (row5 on_world w₁ i (w.st i) u.kind u.a u.b)
  unfolding points
  sets changes =
      by_test Shows (not (eqb y u.a)) _ _
      (λ gone.
      let f = misses y o changes (eqb-false y u.a (not-true (eqb y u.a) gone)) in
      ended (handed u.kind 0 y) f.0 (λ ne. rw (ne_eqb u.kind 2 ne) (sym f.1)))
      (λ there.
      let same = eqb-true y u.a (not-false (eqb y u.a) there) in
      let f = finds y o changes same in
      by_test Shows (eqb u.a u.b) _ _
      (λ equal.
      ended (handed u.kind 1 y) (f.0 ∙ sym (eqb-true u.a u.b equal) ∙ sym same) (λ ne. rw (ne_eqb u.kind 2 ne) (sym f.1)))
      (λ differ. follows (λ x. Begin i x o ∷ []) (goes_past_5 taken.kept i o e low high changes same (eqb-false u.a u.b differ))))

  pub rests : Shows (row on_world Rest w₁ i (w.st i) u.kind u.a u.b)
  unfolding row points
  rests =
      by_test Shows (eqb u.kind 3) _ _ (λ none. taken)
      (λ more.
      by_test Shows (eqb u.kind 0) _ _
      (λ reads. ended y (rw reads) (λ _. rw reads))
      (λ no. sets (eqb-false u.kind 0 no)))
