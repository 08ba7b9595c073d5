-- Document 01, "One turn, one register operation" and "Numbered refusals": a turn with its refusals 9 to 13, and a fresh bench. Assumes nothing.
use Rattle.std.specs.Prelude.{cond, not, ◌||◌, List, [], ◌∷◌, ℕ, ltb, eqb}
use Rattle.method.specs.Table.{row_at}
use Rattle.rules.specs.Limits.{station_limit, bad_station}
use Rattle.rules.specs.Refusal.{Refusal, refusal, refusal_of}
use Rattle.reach.specs.Step.{offer_refusals, or_refused}
use Rattle.bench.specs.declared.Bench.{Bench}
use Rattle.bench.specs.declared.Turned.{Turned}
use Rattle.bench.specs.declared.Made.{Made}
use Rattle.bench.specs.Record.{blank, station_at, on_bench}
use Rattle.bench.specs.Sound.{sound}

-- 9: bench not sound. 10: station 0 or over n. Then what is refused of the offer, 11 to 13
abbrev pub turn_refusals : Bench → ℕ → ℕ → ℕ → ℕ → List Refusal
turn_refusals w i kind a b =
    refusal 9 (not (sound w)) ∷ refusal 10 (bad_station w.n i) ∷ offer_refusals w.v (station_at w i).place (station_at w i).c kind a b

unfoldable pub turn_of : Bench → ℕ → ℕ → ℕ → ℕ → Turned
turn_of w i kind a b = or_refused on_bench (refusal_of (turn_refusals w i kind a b)) w (row_at on_bench w i (station_at w i) kind a b)

-- a fresh bench of n stations; refusal 3 hands back a bench of all zeros
abbrev pub fresh_refusals : ℕ → List Refusal
fresh_refusals n = refusal 3 (eqb n 0 || ltb station_limit n) ∷ []

unfoldable pub fresh_of : ℕ → ℕ → Made
fresh_of x n =
    cond (eqb (refusal_of (fresh_refusals n)) 0) (record { refused = 0; bench = blank x n })
    (record { refused = refusal_of (fresh_refusals n); bench = blank 0 0 })
