-- Each event of a turn keeps the invariant between what is watched and the journal. Assumes nothing.
use mathlib.Core.Path.{◌≡◌, refl, ◌∙◌, sym}
use mathlib.Core.Bool.{Bool, true, false, cond}
use mathlib.Core.List.{List, [], ◌∷◌, ◌++◌, map}
use Prim.Native.Nat.{ℕ, ◌+◌, ◌≤◌}
use native.Mathlib.Omega.{arith}
use borrow.Author.Tests.{eq-eqb, ne_eqb}
use Rattle.method.specs.declared.Call.{Call}
use Rattle.method.specs.Update.{upd}
use Rattle.method.specs.Watch.{Phase, Free, Begun, Done, Event, Begin, Point, End, Watcher, put_phase, point_served, watch, watched, Waits, EndFits, EventFits, Good}
use Rattle.method.proofs.Upd.{upd_same}
use Rattle.order.specs.Journal.{Journal, works, lists, enters, all_enter, ends, acts}
use Rattle.order.proofs.Kept.{Stands, entry_of, in_call_lem, Kept, Unbegun, begin_keeps, work_keeps, point_keeps, end_keeps}

module _ {x now : ℕ} (t : 1 ≤ now) {owns : ℕ → ℕ} {m : Watcher} {g : Journal} (k : Kept x now owns m g) (i : ℕ) where
  abbrev c : ℕ
  c = g.latest i

  pub point_event : (f : Phase) → Waits f → Stands i (owns i) c (entry_of x g c) f → Kept x now owns (point_served i m f) (enters now i g)
  point_event Free w h = absurd w
  point_event (Begun z o) w h =
      let e = h.0 in
      rw (ne_eqb c 0 (λ q. omega (arith, e.is.some)), eq-eqb (g.point c) 0 h.1) (point_keeps k i e.is z o e.word e.what t h.1)
  point_event (Done z o y) w h = absurd w

  -- the point enters the call, which has none yet
  pub enters_it : (f : Phase) → Waits f → Stands i (owns i) c (entry_of x g c) f → (enters now i g ≡ lists now c g) × (g.point c ≡ 0)
  enters_it Free w h = absurd w
  enters_it (Begun z o) w h = (rw (ne_eqb c 0 (λ q. omega (arith, h.0.is.some)), eq-eqb (g.point c) 0 h.1), h.1)
  enters_it (Done z o y) w h = absurd w

  end_event : (result : ℕ) (f : Phase) {owns' : ℕ → ℕ} → ((j : ℕ) → (j ≡ i → ⊥) → owns' j ≡ owns j) → EndFits result f
      → Stands i (owns i) c (entry_of x g c) f → Kept x now owns' (put_phase i Free m) (ends now i result g)
  end_event result Free others w h = absurd w
  end_event result (Begun z o) others w h = absurd w
  end_event result (Done z o y) others w h =
      let e = h.0 in
      end_keeps k i e.is z o e.word e.what y result others h.1.0 h.1.1 w

  -- its operation counts for a station in a call
  work_event : (m.phase i ≡ Free → ⊥) → Kept x now (upd owns i (owns i + 1)) m (works i g)
  work_event busy = work_keeps k i (in_call_lem (m.phase i) busy (k.stands i))

-- the events of a turn, one part after another: what then follows of the rest follows of the whole
module _ {x now : ℕ} (t : 1 ≤ now) (es : List Event) (P : Watcher → Type 0) where
  pub through_begin : {owns : ℕ → ℕ} {m : Watcher} {g : Journal} (rests : Bool) (c i : ℕ) (o : Call) → Kept x now owns m g
      → (rests ≡ true → Unbegun g c × (owns i ≡ 0)) → (rests ≡ false → m.phase i ≡ Free → ⊥) → Good m (cond rests (Begin i 0 o ∷ []) [] ++ es)
      → ((m' : Watcher) → Kept x now (upd owns i (owns i + 1)) m' (acts rests now c i o g) → Good m' es → P (watched m' es))
      → P (watched m (cond rests (Begin i 0 o ∷ []) [] ++ es))
  unfolding Good watched watch
  through_begin {owns} {m} {g} true c i o k free busy h then =
      let b = begin_keeps k i c o t (free refl).0 (free refl).1 in
      then (put_phase i (Begun 0 o) m) (work_event t b i
      (λ e. let q = sym (upd_same m.phase i (Begun 0 o)) ∙ e in let z : ◌≡◌ {A = ℕ} 0 1 = (cc) in omega arith)) h.1
  through_begin {owns} {m} {g} false c i o k free busy h then = then m (work_event t k i (busy refl)) h

  pub through_points : {owns : ℕ → ℕ} {m : Watcher} {g : Journal} (js : List ℕ) → Kept x now owns m g → Good m (map Point js ++ es)
      → ((m' : Watcher) → Kept x now owns m' (all_enter now js g) → Good m' es → P (watched m' es)) → P (watched m (map Point js ++ es))
  unfolding Good EventFits watched watch all_enter
  through_points {owns} {m} {g} [] k h then = then m k h
  through_points {owns} {m} {g} (j ∷ js) k h then = through_points {m = point_served j m (m.phase j)} {g = enters now j g} js (point_event t k j (m.phase j) h.0 (k.stands j)) h.1 then

pub through_end : {x now : ℕ} {owns owns' : ℕ → ℕ} {m : Watcher} {g : Journal} → 1 ≤ now → (i result : ℕ) → ((j : ℕ) → (j ≡ i → ⊥) → owns' j ≡ owns j)
    → Kept x now owns m g → Good m (End i result ∷ []) → Kept x now owns' (watched m (End i result ∷ [])) (ends now i result g)
unfolding Good EventFits watched watch
through_end {m = m} t i result others k h = end_event t k i result (m.phase i) others h.0 (k.stands i)
