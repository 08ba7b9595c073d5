-- The points of the losers, one after another: each finds its word changed, and leaves it. Assumes nothing.
use mathlib.Core.Path.{◌≡◌, refl, sym, ap, ◌∙◌}
use mathlib.Core.Bool.{true, false, cond}
use mathlib.Core.List.{List, [], ◌∷◌, ◌++◌, map}
use Prim.Native.Nat.{ℕ, zero, suc, ◌≤◌}
use native.Mathlib.Omega.{arith}
use native.Mathlib.Decide.{ℕ_discrete}
use borrow.Author.Tests.{leb-true, leb-false, le-leb, lt-leb}
use lib.Dec.{leb}
use Rattle.rules.proofs.Facts.{either_way}
use Rattle.card.specs.declared.Claim.{Claim}
use Rattle.method.specs.declared.Call.{Call}
use Rattle.method.specs.declared.Station.{Station}
use Rattle.method.specs.Effect.{loses, losers}
use Rattle.method.specs.OneWord.{answer, left}
use Rattle.method.specs.Watch.{Phase, Begun, Done, Event, Point, Watcher}
use Rattle.method.proofs.Upd.{upd_all, upd_id}
use Rattle.method.proofs.Watched.{Leads, leads_none, leads_to, leads_on, leads_point}

map-append : (xs ys : List ℕ) → map Point (xs ++ ys) ≡ map Point xs ++ map Point ys
map-append [] ys = refl
map-append (x ∷ xs) ys = ap {B = List Event} (λ l. Point x ∷ l) (map-append xs ys)

-- station j, one of n, waits with a call that leaves its word, and f is its phase once it has had its point
pub record Loses (n : ℕ) (m : Watcher) (j : ℕ) (f : Phase) : Type 0 where
  pub low : 1 ≤ j
  pub high : j ≤ n
  pub word : ℕ
  pub call : Call
  pub waits : m.phase j ≡ Begun word call
  pub same : left (m.words word) call ≡ m.words word
  pub done : f ≡ Done word call (answer (m.words word) call)

-- each loser comes to its phase in f, and the others are there
module _ (n : ℕ) (word : ℕ → ℕ) (i : ℕ) (saw : Claim) (st : ℕ → Station) (m : Watcher) (f : ℕ → Phase)
    (lost : (j : ℕ) → loses word i saw j (st j) ≡ true → Loses n m j (f j))
    (kept : (j : ℕ) → loses word i saw j (st j) ≡ false → m.phase j ≡ f j) where
  -- after the points of stations up to k
  abbrev up_to : ℕ → Watcher
  up_to k = record { words = m.words; phase = λ j. cond (leb j k) (f j) (m.phase j) }

  -- who is none of the n stations does not lose
  outside : (j : ℕ) → (1 ≤ j → j ≤ n → ⊥) → m.phase j ≡ f j
  outside j out = either_way (loses word i saw j (st j)) (λ e. absurd (out (lost j e).low (lost j e).high)) (kept j)

  one_more : (k j : ℕ) → (j ≡ suc k → ⊥) → (up_to k).phase j ≡ (up_to (suc k)).phase j
  one_more k j ne =
      either_way (leb j k)
      (λ e. rw (e, le-leb j (suc k) (omega (arith, leb-true j k e))))
      (λ e. rw (e, lt-leb j (suc k) (omega (arith, leb-false j k e))))

  -- station k + 1 has yet to come to it
  not_yet : (k : ℕ) → (up_to k).phase (suc k) ≡ m.phase (suc k)
  not_yet k = rw (lt-leb (suc k) k (omega arith))

  has_come : (k : ℕ) → (up_to (suc k)).phase (suc k) ≡ f (suc k)
  has_come k = rw (le-leb (suc k) (suc k) (omega arith))

  point : (k : ℕ) → Loses n m (suc k) (f (suc k)) → Leads (up_to k) (Point (suc k) ∷ []) (up_to (suc k))
  point k l =
      let z = l.word in
      let o = l.call in
      leads_to (up_to (suc k)) (leads_point (up_to k) (suc k) z o (not_yet k ∙ l.waits))
      (λ y. ap (λ (g : ℕ → ℕ). g y) (upd_id m.words z (left (m.words z) o) l.same))
      (upd_all (up_to k).phase (suc k) (Done z o (answer (m.words z) o)) (λ j x. x ≡ (up_to (suc k)).phase j) (sym (has_come k ∙ l.done)) (one_more k))

  no_point : (k : ℕ) → m.phase (suc k) ≡ f (suc k) → Leads (up_to k) [] (up_to (suc k))
  no_point k e =
      leads_to (up_to (suc k)) (leads_none (up_to k)) (λ _. refl)
      (λ j. elim (ℕ_discrete j (suc k)) [ yes x ↦ rw x (not_yet k ∙ e ∙ sym (has_come k)) | no ne ↦ one_more k j ne ])

  up_to_lem : (k : ℕ) → Leads m (map Point (losers word i saw st k)) (up_to k)
  unfolding losers
  up_to_lem zero =
      leads_to (up_to 0) (leads_none m) (λ _. refl)
      (λ j. either_way (leb j 0) (λ e. rw e (outside j (λ low _. omega (arith, leb-true j 0 e)))) (λ e. rw e))
  up_to_lem (suc k) =
      rw map-append
      (leads_on (map Point (losers word i saw st k)) (map Point (cond (loses word i saw (suc k) (st (suc k))) (suc k ∷ []) [])) (up_to_lem k)
      (either_way (loses word i saw (suc k) (st (suc k))) (λ e. rw e (point k (lost (suc k) e))) (λ e. rw e (no_point k (kept (suc k) e)))))

  pub losers_lead : Leads m (map Point (losers word i saw st n)) (record { words = m.words; phase = f })
  losers_lead =
      leads_to (record { words = m.words; phase = f }) (up_to_lem n) (λ _. refl)
      (λ j. either_way (leb j n) (λ e. rw e) (λ e. rw e (outside j (λ _ high. omega (arith, leb-false j n e)))))
