-- Document 01, "Run file": a station makes its calls in table order, and a turn of a station with no call left is offered none. Calls go by their numbers in the table, from 1.
-- Assumes nothing.
use Rattle.std.specs.Prelude.{◌≡◌, Bool, cond, ◌&&◌, List, ℕ, suc, ◌+◌, ◌-◌, ◌<◌, ◌≤◌, ltb, eqb, get_or, Option, None, Some}
use Rattle.card.specs.declared.Halves.{Halves}
use Rattle.method.specs.declared.Station.{Station}
use Rattle.method.specs.Effect.{raises}
use Rattle.run.specs.declared.Errand.{Errand}
use Rattle.run.specs.declared.Operation.{Operation}
use Rattle.run.specs.Row.{by_station}
use Rattle.method.specs.declared.Place.{Place}
use Rattle.method.specs.declared.Call.{Call}
use Rattle.method.specs.Record.{num, at_rest, call}
use Rattle.bench.specs.Promise.{Turn}
use Rattle.runfile.specs.First.{first_from}
use Rattle.runfile.specs.Layout.{records, call_of}

-- whether the call at an index from 0 is station i's
abbrev pub made_by : List ℕ → ℕ → ℕ → Bool
made_by table i k = eqb (call_of table (suc k)).station i

-- station i's first call after call c; 0 where it has none
unfoldable pub call_after : List ℕ → ℕ → ℕ → ℕ
call_after table i c = first_from (made_by table i) c (records table - c)

-- the call c on offer, or none where c is 0
abbrev pub offer : List ℕ → ℕ → Call
offer table c = call (cond (eqb c 0) 3 (call_of table c).kind) (call_of table c).a (call_of table c).b

abbrev pub offering : List ℕ → ℕ → ℕ → Turn
offering table i c = record { station = i; kind = (offer table c).kind; a = (offer table c).a; b = (offer table c).b }

-- what is on offer in a turn of a station that stands at place p: its next call, and none while it is in one
abbrev pub on_offer : Place → ℕ → ℕ
on_offer p upcoming = cond (at_rest p) upcoming 0

-- the call that the turn is for: the one on offer, or the one that the station is in
abbrev pub call_for : Place → ℕ → ℕ → ℕ
call_for p upcoming latest = cond (at_rest p) upcoming latest

abbrev pub errand_by : Place → ℕ → ℕ → ℕ → ℕ → Errand
errand_by p turn i upcoming latest = record { turn = turn; station = i; call = call_for p upcoming latest; rests = at_rest p }

-- a station at rest with no call left has none: its turn is idle
abbrev pub errand_of : Place → ℕ → ℕ → ℕ → ℕ → Option Errand
errand_of p turn i upcoming latest = cond (at_rest p && eqb upcoming 0) None (Some (errand_by p turn i upcoming latest))

-- the V.seq that a station in a call waits for, s + 2; 0 at rest
abbrev pub waits : Station → ℕ
waits t = cond (ltb (num t.place) 11) 0 (t.s + 2)

abbrev pub operation_of : Station → Halves → ℕ → ℕ → Operation
operation_of t v own n = record { own = own; raise = cond (raises t.place v t) (Some t.saw) None; n = n }

-- every call's station has its place
abbrev pub StationsWithin : List ℕ → Type 0
StationsWithin table = (c : ℕ) → (call_of table c).station < by_station

-- from the table's end down to call c: each station's first call after c, and the next one of each call after c
pub record Linked (table next head : List ℕ) (c : ℕ) : Type 0 where
  pub first : (i : ℕ) → i < by_station → get_or head i 0 ≡ call_after table i c
  pub after : (d : ℕ) → c < d → d ≤ records table → get_or next d 0 ≡ call_after table (call_of table d).station d
