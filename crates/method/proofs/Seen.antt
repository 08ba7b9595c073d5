-- The watcher of a world: how far a call is shows in the registers. Assumes nothing.
use mathlib.Core.Path.{◌≡◌, sym, ap}
use mathlib.Core.Bool.{cond}
use mathlib.Core.List.{List, []}
use Prim.Native.Nat.{ℕ, ◌≤◌, ◌<◌}
use native.Mathlib.Omega.{arith}
use borrow.Author.Tests.{lt-ltb, le-ltb, le-leb, ne_eqb}
use lib.Dec.{leb, ltb}
use Rattle.card.specs.declared.Halves.{Halves}
use Rattle.card.specs.declared.Claim.{Claim}
use Rattle.method.specs.declared.Place.{Place}
use Rattle.method.specs.declared.Station.{Station}
use Rattle.method.specs.Record.{num, at_rest}
use Rattle.method.specs.World.{World, put_registers, put_station}
use Rattle.method.specs.Watch.{Phase, Free, Begun, Done, Event, Watcher}
use Rattle.method.proofs.Upd.{upd_all}
use Rattle.method.proofs.Watched.{Leads, leads_none, leads_to}
use Rattle.method.proofs.Kept.{Kept}
use Rattle.method.proofs.Step.{RStep, Step, keeps, grows, wins}

-- the answer to come: R's from 13 on
abbrev pub truth : Place → Halves → ℕ
truth q r = cond (leb 13 (num q)) r.second 0

-- a call is past its point where V is past its version
abbrev pub phase_of : Place → ℕ → Halves → Halves → Station → Phase
phase_of q z v r t = cond (at_rest q) Free (cond (ltb t.s v.first) (Done z t.call (truth q r)) (Begun z t.call))

module _ (q : Place) (z : ℕ) (v r : Halves) (t : Station) where
  pub past_phase : 11 ≤ num q → t.s < v.first → phase_of q z v r t ≡ Done z t.call (truth q r)
  past_phase l up = rw (ne_eqb (num q) 0 (omega arith), lt-ltb t.s v.first up)

  pub open_phase : 11 ≤ num q → v.first ≤ t.s → phase_of q z v r t ≡ Begun z t.call
  open_phase l up = rw (ne_eqb (num q) 0 (omega arith), le-ltb t.s v.first up)

  -- past 12 the place does not matter
  pub late_phase : (q' : Place) → 13 ≤ num q → 13 ≤ num q' → phase_of q z v r t ≡ phase_of q' z v r t
  late_phase q' l l' = rw (ne_eqb (num q) 0 (omega arith), ne_eqb (num q') 0 (omega arith), le-leb 13 (num q) l, le-leb 13 (num q') l')

abbrev pub phase_in : World → ℕ → Station → Phase
phase_in w i t = phase_of t.place (w.word i) (w.v (w.word i)) (w.r i) t

abbrev pub seen : World → Watcher
seen w = record { words = λ z. (w.v z).second; phase = λ i. phase_in w i (w.st i) }

-- the events lead from the watcher of w to that of a world that keeps the invariant too
pub record Next (n : ℕ) (w : World) (es : List Event) (w' : World) : Type 0 where
  pub leads : Leads (seen w) es (seen w')
  pub kept : Kept n w'

-- the registers take a step that leaves V as it was
module _ {n : ℕ} {w : World} {v' : ℕ → Halves} {p' : ℕ → Claim} {a' r' : ℕ → Halves} (k : Kept n w) (s : Step w v' p' a' r')
    (quiet : (z : ℕ) → v' z ≡ w.v z) where
  abbrev w' : World
  w' = put_registers v' p' a' r' w

  -- a station whose R keeps its count keeps its phase
  pub phase_stays : (i : ℕ) → (r' i).first ≡ (w.r i).first → phase_in w' i (w.st i) ≡ phase_in w i (w.st i)
  phase_stays i own = rw (quiet (w.word i)) (go (s.r i))
    where
      go : RStep i (w.v (w.word i)) (w.p (w.word i)) (w.r i) (r' i)
          → phase_of (w.st i).place (w.word i) (w.v (w.word i)) (r' i) (w.st i) ≡ phase_in w i (w.st i)
      go (keeps e) = rw e
      go (grows l) = absurd (omega arith)
      go (wins _ _ full mine) =
          let version = ((k.words (w.word i)).contends (omega arith)).version in
          let same : (w.st i).s ≡ (w.v (w.word i)).first = rw mine at version in
          rw (le-ltb (w.st i).s (w.v (w.word i)).first (omega arith))

  -- nothing shows where station j gets the record t' besides, with the phase that it had
  pub silent : (j : ℕ) (t' : Station) → ((i : ℕ) → (i ≡ j → ⊥) → (r' i).first ≡ (w.r i).first) → phase_in w' j t' ≡ phase_in w j (w.st j)
      → Leads (seen w) [] (seen (put_station j t' w'))
  silent j t' others own =
      leads_to (seen (put_station j t' w')) (leads_none (seen w)) (λ z. ap (λ (x : Halves). x.second) (sym (quiet z)))
      (upd_all w.st j t' (λ i t. phase_in w i (w.st i) ≡ phase_in w' i t) (sym own) (λ i ne. sym (phase_stays i (others i ne))))
