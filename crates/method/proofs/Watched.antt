-- Events that fit, one after another, and the watcher that they lead to. Assumes nothing.
use mathlib.Core.Path.{◌≡◌, refl, sym, ap, ◌∙◌, subst⁻¹}
use mathlib.Core.List.{List, [], ◌∷◌, ◌++◌}
use Prim.Native.Nat.{ℕ}
use borrow.Author.Tests.{eq-eqb, ne_eqb}
use Rattle.method.specs.declared.Call.{Call}
use Rattle.method.specs.OneWord.{answer, left, Agrees}
use Rattle.method.specs.Watch.{Free, Begun, Done, Event, Begin, Point, End, Watcher, put_phase, point_served, watch, watched, Waits, EndFits, EventFits, Good}
use Rattle.method.proofs.Upd.{upd_same, upd_other, upd_all, upd_id}

-- a set that finds a changes the word to b and is told so; one that does not leaves it
pub finds : (y : ℕ) (o : Call) → (o.kind ≡ 0 → ⊥) → y ≡ o.a → (left y o ≡ o.b) × (answer y o ≡ 1)
finds y o sets e = rw (ne_eqb o.kind 0 sets, eq-eqb y o.a e) (refl, refl)

pub misses : (y : ℕ) (o : Call) → (o.kind ≡ 0 → ⊥) → (y ≡ o.a → ⊥) → (left y o ≡ y) × (answer y o ≡ 0)
misses y o sets e = rw (ne_eqb o.kind 0 sets, ne_eqb y o.a e) (refl, refl)

-- the events fit, and the watcher is m' after them
pub record Leads (m : Watcher) (es : List Event) (m' : Watcher) : Type 0 where
  pub good : Good m es
  pub ends : watched m es ≡ m'

pub leads_none : (m : Watcher) → Leads m [] m
unfolding Good watched
leads_none m = record { good = tt; ends = refl }

-- two watchers that hold the same are the same
pub leads_to : {m m' : Watcher} {es : List Event} (m'' : Watcher) → Leads m es m'
    → ((z : ℕ) → m'.words z ≡ m''.words z) → ((j : ℕ) → m'.phase j ≡ m''.phase j) → Leads m es m''
leads_to m'' l e f = record { good = l.good; ends = l.ends ∙ (λ x. record { words = λ z. e z x; phase = λ j. f j x }) }

-- one list after another
pub leads_on : (xs ys : List Event) {m m' m'' : Watcher} → Leads m xs m' → Leads m' ys m'' → Leads m (xs ++ ys) m''
unfolding Good watched
leads_on [] ys {m} {m'} {m''} f g = subst⁻¹ (λ (x : Watcher). Leads x ys m'') f.ends g
leads_on (e ∷ xs) ys f g =
    let r = leads_on xs ys (record { good = f.good.1; ends = f.ends }) g in
    record { good = (f.good.0, r.good); ends = r.ends }

-- one event
pub leads_begin : (m : Watcher) (i z : ℕ) (o : Call) → m.phase i ≡ Free → Leads m (Begin i z o ∷ []) (put_phase i (Begun z o) m)
unfolding Good EventFits watched watch
leads_begin m i z o e = record { good = (e, tt); ends = refl }

pub leads_point : (m : Watcher) (i z : ℕ) (o : Call) → m.phase i ≡ Begun z o → Leads m (Point i ∷ []) (point_served i m (Begun z o))
unfolding Good EventFits watched watch
leads_point m i z o e = record { good = (subst⁻¹ Waits e tt, tt); ends = ap (point_served i m) e }

pub leads_end : (m : Watcher) (i z : ℕ) (o : Call) (y result : ℕ) → m.phase i ≡ Done z o y → Agrees o y result → Leads m (End i result ∷ []) (put_phase i Free m)
unfolding Good EventFits watched watch
leads_end m i z o y result e a = record { good = (subst⁻¹ (EndFits result) e a, tt); ends = refl }

-- a call that begins, has its point and ends in one turn, and leaves its word
pub at_once_lem : (m : Watcher) (i z : ℕ) (o : Call) (result : ℕ) → m.phase i ≡ Free → left (m.words z) o ≡ m.words z → Agrees o (answer (m.words z) o) result
    → Leads m (Begin i z o ∷ Point i ∷ End i result ∷ []) m
at_once_lem m i z o result free same a =
    let b = put_phase i (Begun z o) m in
    let d = point_served i b (Begun z o) in
    leads_to m
    (leads_on (Begin i z o ∷ []) (Point i ∷ End i result ∷ []) (leads_begin m i z o free)
    (leads_on (Point i ∷ []) (End i result ∷ []) (leads_point b i z o (upd_same m.phase i (Begun z o)))
    (leads_end d i z o (answer (m.words z) o) result (upd_same b.phase i (Done z o (answer (m.words z) o))) a)))
    (λ x. ap (λ (g : ℕ → ℕ). g x) (upd_id m.words z (left (m.words z) o) same))
    (upd_all d.phase i Free (λ j x. x ≡ m.phase j) (sym free)
    (λ j ne. upd_other b.phase i (Done z o (answer (m.words z) o)) j ne ∙ upd_other m.phase i (Begun z o) j ne))
