-- Demand 3 from the invariant. Assumes nothing.
use mathlib.Core.Path.{◌≡◌, refl, ◌∙◌, ap, subst}
use mathlib.Core.Bool.{Bool, true, false, ◌&&◌}
use Prim.Native.Nat.{ℕ, ◌+◌, ◌≤◌, ◌<◌}
use native.Mathlib.Omega.{arith}
use native.Mathlib.Decide.{dec_le}
use lib.ListN.{length, get_or, take}
use Rattle.method.specs.Record.{at_rest, call}
use Rattle.method.specs.OneWord.{Agrees}
use Rattle.method.specs.Operation.{operates}
use Rattle.method.proofs.Upd.{upd_other}
use Rattle.method.proofs.Inv.{values}
use Rattle.bench.specs.declared.Bench.{Bench}
use Rattle.bench.specs.Record.{station_at}
use Rattle.bench.specs.Promise.{Turn, turn_by}
use Rattle.order.specs.Journal.{Journal, log_in, logged}
use Rattle.order.specs.Accepted.{times, Fits, Accepted}
use Rattle.order.specs.Demand.{Pairs, Demand3}
use Rattle.order.proofs.Lists.{at_in, each_map, pairs-map, pairs_at, times_take, each_take, answered_at}
use Rattle.order.proofs.Dated.{Dated, has_point, is_listed}
use Rattle.order.proofs.Same.{opening, opens}
use Rattle.order.proofs.Turns.{Held}

module _ {x now : ℕ} {w : Bench} {g : Journal} (h' : Held x now w g) where
  abbrev k : Dated now g.first g.point g.last g.list
  k = h'.kept.dated

  once : (c : ℕ) → times c g.list ≤ 1
  once c = elim (dec_le 1 (times c g.list)) [
    | yes l ↦ let e = is_listed k c (has_point k c l) in omega arith
    | no l ↦ omega arith
  ]

  -- no call stands after one that began after it had ended
  in_time : Pairs (λ c d. 1 ≤ g.last d → g.first c ≤ g.last d) g.list
  in_time =
      pairs-map g.list
      (λ c d i j p l.
      let a = k.after c (has_point k c i) in
      let b = k.before d l in
      omega arith)
      k.rising

  fits : (i : ℕ) → i < length g.list → Fits x (log_in g) (take i g.list) (get_or g.list i 0)
  fits i h =
      let c = get_or g.list i 0 in
      let new : times c (take i g.list) ≡ 0 = omega (arith, times_take g.list i h, once c) in
      record {
        begun = (k.after c (has_point k c (at_in g.list i h))).0;
        new = new;
        order = λ l. each_map (take i g.list) (λ d p f. f l) (each_take (λ c d. 1 ≤ g.last d → g.first c ≤ g.last d) g.list i h in_time);
        answers = λ l. subst (λ y. Agrees (g.call c) y (g.result c)) (answered_at g.call g.list x i h new) (h'.kept.answers c l);
      }

  accepted : Accepted x (log_in g) g.list
  accepted = record { fits = fits; every = λ c l. omega (arith, is_listed k c (k.before c l).0) }

  pub demand : Demand3 x w.v.second (log_in g) g.list
  demand =
      record {
        took = h'.owns.took;
        tenth = λ c b. h'.owns.few c;
        accepted = accepted;
        word = h'.kept.word ∙ values h'.inv 0;
        listed = k.listed;
        after = k.after;
        before = k.before;
        rising = k.rising;
        order =
            λ i j p q l e.
            let c = get_or g.list i 0 in
            let d = get_or g.list j 0 in
            elim (dec_le (i + 1) j) [
              | yes s ↦ omega arith
              | no s ↦ elim (dec_le (j + 1) i) [
                | yes r ↦ absurd (let f = pairs_at (λ c d. 1 ≤ g.last d → g.first c ≤ g.last d) g.list j i (omega arith) p in_time l in omega arith)
                | no r ↦
                    absurd
                    (let same : j ≡ i = omega arith in
                    let e' = rw same at e in
                    let a = k.after c (has_point k c (at_in g.list i p)) in
                    let b = k.before c l in
                    omega arith)
              ]
            ];
      }

-- only the call on offer begins
pub others_wait : (w : Bench) (now c : ℕ) (u : Turn) (g : Journal) (d : ℕ) → (d ≡ c → ⊥) → (logged w now c u (turn_by w u).answer g).first d ≡ g.first d
others_wait w now c u g d ne =
    let y = (turn_by w u).answer in
    ap (λ (f : ℕ → ℕ). f d) (opens w now c u y g).first
    ∙ either (operates y && at_rest (station_at w u.station).place)
  where
    either : (b : Bool) → (opening b now c u.station (call u.kind u.a u.b) g).first d ≡ g.first d
    either true = upd_other g.first c now d ne
    either false = refl
