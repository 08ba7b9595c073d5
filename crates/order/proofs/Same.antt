-- What a turn leaves of a journal: points change the list and the turns of points alone, and only the call on offer can begin. Assumes nothing.
use mathlib.Core.Path.{◌≡◌, refl, ◌∙◌}
use mathlib.Core.Bool.{Bool, cond, not, ◌&&◌}
use mathlib.Core.List.{List, [], ◌∷◌}
use Prim.Native.Nat.{ℕ}
use lib.Dec.{eqb}
use Rattle.rules.proofs.Facts.{either_way}
use Rattle.method.specs.declared.Call.{Call}
use Rattle.method.specs.declared.Answer.{Answer}
use Rattle.method.specs.declared.Answer.TheVariants.{Idle, Going, Ended, Refused}
use Rattle.method.specs.Record.{at_rest, call}
use Rattle.method.specs.Operation.{operates}
use Rattle.bench.specs.declared.Bench.{Bench}
use Rattle.bench.specs.Record.{station_at}
use Rattle.bench.specs.Points.{points_in}
use Rattle.bench.specs.Promise.{Turn}
use Rattle.order.specs.Journal.{Journal, begins, enters, all_enter, acts, logged}

-- all but points and the list
pub record Same (g' g : Journal) : Type 0 where
  pub station : g'.station ≡ g.station
  pub call : g'.call ≡ g.call
  pub first : g'.first ≡ g.first
  pub last : g'.last ≡ g.last
  pub result : g'.result ≡ g.result
  pub own : g'.own ≡ g.own
  pub latest : g'.latest ≡ g.latest

nothing : (g : Journal) → Same g g
nothing g = record { station = refl; call = refl; first = refl; last = refl; result = refl; own = refl; latest = refl }

enter_one : (now j : ℕ) (g : Journal) → Same (enters now j g) g
enter_one now j g =
    either_way (not (eqb (g.latest j) 0) && eqb (g.point (g.latest j)) 0)
    (λ e. rw e (record { station = refl; call = refl; first = refl; last = refl; result = refl; own = refl; latest = refl }))
    (λ e. rw e (nothing g))

pub enter_all : (now : ℕ) (js : List ℕ) (g : Journal) → Same (all_enter now js g) g
unfolding all_enter
enter_all now [] g = nothing g
enter_all now (j ∷ js) g =
    let r = enter_all now js (enters now j g) in
    let e = enter_one now j g in
    record {
      station = r.station ∙ e.station;
      call = r.call ∙ e.call;
      first = r.first ∙ e.first;
      last = r.last ∙ e.last;
      result = r.result ∙ e.result;
      own = r.own ∙ e.own;
      latest = r.latest ∙ e.latest;
    }

-- the calls that have begun after a turn, and what they are
pub record Opened (g' g : Journal) : Type 0 where
  pub station : g'.station ≡ g.station
  pub call : g'.call ≡ g.call
  pub first : g'.first ≡ g.first
  pub latest : g'.latest ≡ g.latest

-- where the call o begins under the number c, if the turn does an operation and its station was at rest
abbrev pub opening : Bool → ℕ → ℕ → ℕ → Call → Journal → Journal
opening rests now c i o g = cond rests (begins now c i o g) g

pub opens : (w : Bench) (now c : ℕ) (u : Turn) (y : Answer) (g : Journal)
    → Opened (logged w now c u y g) (opening (operates y && at_rest (station_at w u.station).place) now c u.station (call u.kind u.a u.b) g)
unfolding logged
opens w now c u Idle g = record { station = refl; call = refl; first = refl; latest = refl }
opens w now c u Going g =
    let i = u.station in
    let e = enter_all now (points_in w i Going) (acts (at_rest (station_at w i).place) now c i (call u.kind u.a u.b) g) in
    record { station = e.station; call = e.call; first = e.first; latest = e.latest }
opens w now c u (Ended result own) g =
    let i = u.station in
    let e = enter_all now (points_in w i (Ended result own)) (acts (at_rest (station_at w i).place) now c i (call u.kind u.a u.b) g) in
    record { station = e.station; call = e.call; first = e.first; latest = e.latest }
opens w now c u (Refused number) g = record { station = refl; call = refl; first = refl; latest = refl }
