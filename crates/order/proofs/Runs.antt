-- Demand 3 for every run: turn by turn the invariant holds and the log is pinned. Assumes nothing.
use mathlib.Core.Path.{◌≡◌, refl, ◌∙◌, ap, subst, subst⁻¹}
use mathlib.Core.Bool.{true}
use mathlib.Core.List.{List, [], ◌∷◌}
use Prim.Native.Nat.{ℕ, suc, ◌+◌, ◌≤◌, ◌<◌}
use native.Mathlib.Omega.{arith}
use lib.ListN.{length, get_or}
use Rattle.method.specs.Record.{at_rest}
use Rattle.method.specs.Operation.{operates}
use Rattle.bench.specs.declared.Bench.{Bench}
use Rattle.bench.specs.Record.{blank, station_at}
use Rattle.bench.specs.Turn.{fresh_of}
use Rattle.bench.specs.Promise.{Turn, turn_by, after}
use Rattle.run.proofs.Start.{fresh_bench}
use Rattle.order.specs.Steps.{Step, steps_from, no_step, station_of, answer_of, effects}
use Rattle.order.specs.Pinned.{Pinned}
use Rattle.order.specs.Journal.{Journal, log_in, no_calls, logged, journal_from, journal_of}
use Rattle.order.specs.Demand.{Demand3, EveryRun}
use Rattle.order.proofs.Kept.{Unbegun}
use Rattle.order.proofs.Turns.{Held, turn_held, fresh_held}
use Rattle.order.proofs.Pins.{Pins, pinned, turn_pins, no_pins}
use Rattle.order.proofs.Demands.{demand, others_wait}

-- after the first `now` turns of a run the turns `rest` are left
pub record Ahead (steps : List Step) (now : ℕ) (rest : List Step) : Type 0 where
  pub each : (k j : ℕ) → k ≡ now + j → get_or steps k no_step ≡ get_or rest j no_step
  pub long : length steps ≡ now + length rest

pub all_ahead : (steps : List Step) → Ahead steps 0 steps
all_ahead steps = record { each = λ k j e. ap (λ k. get_or steps k no_step) (e ∙ omega arith); long = omega arith }

module _ {steps rest : List Step} {now : ℕ} {s : Step} (a : Ahead steps now (s ∷ rest)) where
  pub next_ahead : Ahead steps (now + 1) rest
  next_ahead = record { each = λ k j e. a.each k (suc j) (omega arith); long = omega (arith, a.long) }

  -- the next of them keeps the log pinned
  pub next_pins : {x : ℕ} {g : Journal} → Held x now s.bench g → Pins steps now g
      → (operates (answer_of s) ≡ true → at_rest (station_at s.bench (station_of s)).place ≡ true → Unbegun g s.offer)
      → Pins steps (now + 1) (logged s.bench (now + 1) s.offer s.turn (answer_of s) g)
  next_pins {x} {g} h p free =
      subst
      (λ (s : Step).
      Held x now s.bench g → (operates (answer_of s) ≡ true → at_rest (station_at s.bench (station_of s)).place ≡ true → Unbegun g s.offer)
      → Pins steps (now + 1) (logged s.bench (now + 1) s.offer s.turn (answer_of s) g))
      (a.each now 0 (omega arith))
      (λ h free.
      let t = get_or steps now no_step in
      subst (λ k. Pins steps k (logged t.bench k t.offer t.turn (answer_of t) g)) (omega arith) (turn_pins steps now p h free))
      h free

-- what holds at a run's end of its bench and its journal
pub record Ran (x : ℕ) (steps : List Step) (w : Bench) (g : Journal) : Type 0 where
  pub held : Held x (length steps) w g
  pub pins : Pins steps (length steps) g

pub ran : {x now : ℕ} {steps : List Step} {w : Bench} {g : Journal} → Ahead steps now [] → Held x now w g → Pins steps now g → Ran x steps w g
ran {x} {now} {steps} {w} {g} a h p =
    let e : now ≡ length steps = omega (arith, a.long) in
    record { held = subst (λ k. Held x k w g) e h; pins = subst (λ k. Pins steps k g) e p }

-- the log of such a journal is pinned, and the calls in order of effect are as demanded
pub ran_pinned : {x : ℕ} {steps : List Step} {w : Bench} {g : Journal} → Ran x steps w g → Pinned steps (length steps) (log_in g)
ran_pinned r = pinned r.pins

pub ran_demand : {x : ℕ} {steps : List Step} {w : Bench} {g : Journal} → Ran x steps w g → Demand3 x w.v.second (log_in g) (effects steps (length steps))
ran_demand {x} {steps} {w} {g} r = subst (λ l. Demand3 x w.v.second (log_in g) l) r.pins.list (demand r.held)

-- calls are numbered by the turn in which they begin, so those of turns to come have not begun
runs : {x k : ℕ} {w : Bench} {g : Journal} (steps : List Step) (us : List Turn) → Ahead steps k (steps_from k w us) → Held x k w g → Pins steps k g
    → ((c : ℕ) → k < c → g.first c ≡ 0) → Ran x steps (after w us) (journal_from k w g us)
unfolding after steps_from journal_from
runs steps [] a h p wait = ran a h p
runs {x} {k} {w} {g} steps (u ∷ us) a h p wait =
    let free : operates (turn_by w u).answer ≡ true → at_rest (station_at w u.station).place ≡ true → Unbegun g (k + 1) =
    λ o r. (omega arith, wait (k + 1) (omega arith)) in
    runs {k = k + 1} {w = (turn_by w u).bench} {g = logged w (k + 1) (k + 1) u (turn_by w u).answer g} steps us (next_ahead a) (turn_held h (k + 1) u free) (next_pins a h p free)
    (λ c l. others_wait w (k + 1) (k + 1) u g c (λ e. omega arith) ∙ wait c (omega arith))

-- the run of any turns from a fresh bench, with its journal
pub every_journal : (x n : ℕ) → 1 ≤ n → n ≤ 32 → (us : List Turn)
    → let w = (fresh_of x n).bench in
    Ran x (steps_from 0 w us) (after w us) (journal_of x n us)
every_journal x n low high us =
    subst⁻¹ (λ m. Ran x (steps_from 0 m.bench us) (after m.bench us) (journal_from 0 m.bench no_calls us)) (fresh_bench x n low high)
    (let w = blank x n in
    runs (steps_from 0 w us) us (all_ahead (steps_from 0 w us)) (fresh_held x n low high) (no_pins (steps_from 0 w us)) (λ c l. refl))

pub every_run : EveryRun
unfolding EveryRun
every_run x n low high us =
    let r = every_journal x n low high us in
    record { log = log_in (journal_of x n us); pinned = ran_pinned r; demand = ran_demand r }
