-- The theorem of the method: the invariant between a world and its watcher holds at the start, and each turn's events fit and keep it. Assumes nothing.
use mathlib.Core.Path.{◌≡◌, refl, sym, ap, ◌∙◌, subst⁻¹}
use mathlib.Core.Logic.{⊎_elim}
use Prim.Native.Nat.{ℕ, ◌≤◌}
use native.Mathlib.Omega.{arith}
use native.Mathlib.Decide.{dec_lt}
use borrow.Author.Rules.{rules}
use Rattle.method.specs.Record.{num}
use Rattle.method.specs.World.{World, WorldTurn, world_turn, fresh}
use Rattle.method.specs.Watch.{Free, Watcher, watching, watched, Good}
use Rattle.method.specs.Events.{shown}
use Rattle.method.specs.Promise.{EveryRunIsGood}
use Rattle.method.proofs.Kept.{Kept}
use Rattle.method.proofs.Places.{rest_or_call}
use Rattle.method.proofs.Seen.{past_phase, open_phase, seen}
use Rattle.method.proofs.Turn.{turns, runs}

-- n stations' registers and records keep their invariant, and the watcher holds what they show
pub record Inv (n : ℕ) (w : World) (m : Watcher) : Type 0 where
  pub kept : Kept n w
  pub watcher : m ≡ seen w

fresh_kept : (n : ℕ) (x : ℕ → ℕ) → Kept n (fresh x)
fresh_kept n x =
    record {
      words =
          λ z.
          record {
            even = refl;
            low = omega arith;
            high = omega arith;
            word = λ up. absurd (omega arith);
            contends = λ up. absurd (omega arith);
            claimed = λ even some. absurd (omega arith);
          };
      stations = λ i. search rules;
    }

pub start : (n : ℕ) (x : ℕ → ℕ) → Inv n (fresh x) (watching x)
start n x = record { kept = fresh_kept n x; watcher = refl }

module _ {n : ℕ} {w : World} {m : Watcher} (h : Inv n w m) where
  pub turn : (u : WorldTurn) → 1 ≤ u.station → u.station ≤ n → Good m (shown n w u) × Inv n (world_turn w u).world (watched m (shown n w u))
  turn u low high =
      let f = turns h.kept u low high in
      subst⁻¹ (λ (m : Watcher). Good m (shown n w u) × Inv n (world_turn w u).world (watched m (shown n w u))) h.watcher
      (f.leads.good, record { kept = f.kept; watcher = f.leads.ends })

  -- the watcher's words are V's values
  pub values : (z : ℕ) → m.words z ≡ (w.v z).second
  values z = ap (λ (m : Watcher). m.words z) h.watcher

  -- a station is free exactly when it is at rest
  pub rest_is_free : (i : ℕ) → num (w.st i).place ≡ 0 → m.phase i ≡ Free
  rest_is_free i e = ap (λ (m : Watcher). m.phase i) h.watcher ∙ rw e

  pub free_is_rest : (i : ℕ) → m.phase i ≡ Free → num (w.st i).place ≡ 0
  free_is_rest i e =
      let t = w.st i in
      let v = w.v (w.word i) in
      let free = sym (ap (λ (m : Watcher). m.phase i) h.watcher) ∙ e in
      ⊎_elim (λ rest. rest)
      (λ inside.
      elim (dec_lt t.s v.first) [
        | yes l ↦ let p = past_phase t.place (w.word i) v (w.r i) t inside.0 l in let z : ◌≡◌ {A = ℕ} 0 1 = (cc) in absurd (omega arith)
        | no l ↦ let p = open_phase t.place (w.word i) v (w.r i) t inside.0 (omega arith) in let z : ◌≡◌ {A = ℕ} 0 1 = (cc) in absurd (omega arith)
      ])
      (rest_or_call t.place)

pub every_run_is_good : EveryRunIsGood
unfolding EveryRunIsGood
every_run_is_good n x us h =
    let r = runs us (fresh_kept n x) h in
    record { good = r.leads.good; values = λ z. sym (ap (λ (m : Watcher). m.words z) r.leads.ends) }
