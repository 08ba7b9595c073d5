-- Two logs that are pinned to the same turns say the same. Assumes nothing.
use mathlib.Core.Path.{◌≡◌, ◌∙◌, sym, ap}
use mathlib.Core.List.{List}
use Prim.Native.Nat.{ℕ, ◌≤◌}
use native.Mathlib.Omega.{arith}
use native.Mathlib.Decide.{dec_le}
use Rattle.method.specs.Record.{call, told}
use Rattle.order.specs.Log.{Log}
use Rattle.order.specs.Steps.{Step, step_at, station_of, answer_of}
use Rattle.order.specs.Pinned.{Pinned}
use Rattle.order.specs.Decided.{LogDecided}

-- numbers of which each, where it is not 0, is the other
same_number : (a b : ℕ) → (1 ≤ a → b ≡ a) → (1 ≤ b → a ≡ b) → a ≡ b
same_number a b f h = elim (dec_le 1 a) [
  | yes p ↦ sym (f p)
  | no p ↦ elim (dec_le 1 b) [
    | yes q ↦ h q
    | no q ↦ omega arith
  ]
]

module _ {steps : List Step} {now : ℕ} {g g' : Log} (p : Pinned steps now g) (p' : Pinned steps now g') (c : ℕ) where
  first_is : 1 ≤ g.first c → g'.first c ≡ g.first c
  first_is h =
      let q = p.first c h in
      ap g'.first (sym q.1.number) ∙ (p'.begun (g.first c) h q.0 q.1.begins).1

  last_is : 1 ≤ g.last c → g'.last c ≡ g.last c
  last_is h =
      let q = p.last c h in
      ap g'.last (sym q.1.number) ∙ (p'.ended (g.last c) (g.result c) (g.own c) h q.0 q.1.answer).1

  point_is : 1 ≤ g.point c → g'.point c ≡ g.point c
  point_is h = let q = p.point c h in p'.listed c (g.point c) h q.0 q.1

pub log_decided : LogDecided
unfolding LogDecided
log_decided steps now g g' p p' =
    let first : (c : ℕ) → g.first c ≡ g'.first c = λ c. same_number (g.first c) (g'.first c) (first_is p p' c) (first_is p' p c) in
    let last : (c : ℕ) → g.last c ≡ g'.last c = λ c. same_number (g.last c) (g'.last c) (last_is p p' c) (last_is p' p c) in
    record {
      first = first;
      last = last;
      point = λ c. same_number (g.point c) (g'.point c) (point_is p p' c) (point_is p' p c);
      own = λ c. p.own c ∙ sym (p'.own c);
      begun =
          λ c h.
          let q = (p.first c h).1 in
          let q' = (p'.first c (omega (arith, first c))).1 in (
            sym q.maker ∙ ap (λ k. station_of (step_at steps k)) (first c) ∙ q'.maker,
            sym q.what ∙ ap (λ k. call (step_at steps k).turn.kind (step_at steps k).turn.a (step_at steps k).turn.b) (first c) ∙ q'.what,
          );
      ended =
          λ c h.
          let q = (p.last c h).1 in
          let q' = (p'.last c (omega (arith, last c))).1 in
          ap (λ y. (told y).result) (sym q.answer ∙ ap (λ k. answer_of (step_at steps k)) (last c) ∙ q'.answer);
    }
