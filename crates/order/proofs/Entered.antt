-- The calls that have their point in a turn are the ones that are listed in it, each for the first time. Assumes nothing.
use mathlib.Core.Path.{◌≡◌, refl, ◌∙◌, sym, ap, subst}
use mathlib.Core.List.{List, [], ◌∷◌, ◌++◌, map, append_assoc, append-nil}
use Prim.Native.Nat.{ℕ, ◌+◌, ◌≤◌}
use native.Mathlib.Omega.{arith}
use native.Mathlib.Decide.{dec_le}
use borrow.Author.Tests.{eqb-true, eqb-false}
use lib.Dec.{eqb}
use Rattle.rules.proofs.Facts.{either_way}
use Rattle.method.specs.Update.{upd}
use Rattle.method.specs.Watch.{Event, Point, Watcher, point_served, watch, EventFits, Good}
use Rattle.method.proofs.Upd.{upd_same, upd_other, upd_all}
use Rattle.order.specs.Journal.{Journal, enters, all_enter}
use Rattle.order.specs.Accepted.{times}
use Rattle.order.proofs.Kept.{Kept}
use Rattle.order.proofs.Events.{point_event, enters_it}

-- the calls `new` have their point now
pub record Entered (now : ℕ) (new : List ℕ) (point point' : ℕ → ℕ) (list list' : List ℕ) : Type 0 where
  pub lists : list' ≡ list ++ new
  pub others : (c : ℕ) → times c new ≡ 0 → point' c ≡ point c
  pub these : (c : ℕ) → 1 ≤ times c new → (point c ≡ 0) × (point' c ≡ now)

pub none_entered : (now : ℕ) (point : ℕ → ℕ) (list : List ℕ) → Entered now [] point point list list
unfolding times
none_entered now point list = record { lists = sym (append-nil list); others = λ c e. refl; these = λ c e. absurd (omega arith) }

pub recast_entered : {now : ℕ} {new new' : List ℕ} {point point₁ point' : ℕ → ℕ} {list list₁ list' : List ℕ}
    → new' ≡ new → point₁ ≡ point → list₁ ≡ list → Entered now new point₁ point' list₁ list' → Entered now new' point point' list list'
recast_entered a b c e = rw (a, ← b, ← c) e

-- first call c, then the others
module _ {now : ℕ} {new : List ℕ} {point' : ℕ → ℕ} {list' : List ℕ} (point : ℕ → ℕ) (list : List ℕ) (c : ℕ) (none : point c ≡ 0)
    (r : Entered now new (upd point c now) point' (list ++ (c ∷ [])) list') where
  had_none : (d : ℕ) → upd point c now d ≡ 0 → point d ≡ 0
  had_none = upd_all point c now (λ d y. y ≡ 0 → point d ≡ 0) (λ e. none) (λ d ne e. e)

  enters_too : Entered now (c ∷ new) point point' list list'
  unfolding times
  enters_too =
      record {
        lists = r.lists ∙ append_assoc list (c ∷ []) new;
        others =
            λ d e.
            either_way (eqb d c)
            (λ q. absurd (let z : 1 + times d new ≡ 0 = rw q at e in omega arith))
            (λ q. r.others d (omega (arith, e)) ∙ upd_other point c now d (eqb-false d c q));
        these =
            λ d e.
            elim (dec_le 1 (times d new)) [
              | yes p ↦ let q = r.these d p in (had_none d q.0, q.1)
              | no p ↦
                  either_way (eqb d c)
                  (λ q.
                  let same = eqb-true d c q in
                  (ap point same ∙ none, r.others d (omega arith) ∙ ap (upd point c now) same ∙ upd_same point c now))
                  (λ q. absurd (let z : 1 ≤ 0 + times d new = rw q at e in omega arith))
            ];
      }

pub all_entered : {x now : ℕ} → 1 ≤ now → (es : List Event) {owns : ℕ → ℕ} {m : Watcher} {g : Journal} (js : List ℕ) → Kept x now owns m g → Good m (map Point js ++ es)
    → let g' = all_enter now js g in
    Entered now (map g.latest js) g.point g'.point g.list g'.list
unfolding Good EventFits watch all_enter
all_entered {now = now} t es {g = g} [] k h = none_entered now g.point g.list
all_entered {now = now} t es {m = m} {g = g} (j ∷ js) k h =
    let s = enters_it t k j (m.phase j) h.0 (k.stands j) in
    let g' = all_enter now js (enters now j g) in
    enters_too g.point g.list (g.latest j) s.1
    (subst (λ (f : Journal). Entered now (map f.latest js) f.point g'.point f.list g'.list) s.0
    (all_entered t es {m = point_served j m (m.phase j)} {g = enters now j g} js (point_event t k j (m.phase j) h.0 (k.stands j)) h.1))
