-- The bench: how it is made, read, and changed at one place, and how the step table has it. Assumes nothing.
use Rattle.std.specs.Prelude.{ℕ, get_or, set, replicate}
use Rattle.card.specs.declared.Halves.{Halves}
use Rattle.card.specs.declared.Claim.{Claim}
use Rattle.card.specs.Register.{halves, claim}
use Rattle.method.specs.declared.Station.{Station}
use Rattle.method.specs.declared.Answer.{Answer}
use Rattle.method.specs.Record.{resting}
use Rattle.method.specs.Table.{Access}
use Rattle.bench.specs.declared.Bench.{Bench}
use Rattle.bench.specs.declared.Turned.{Turned}

-- every station at rest with count 0, all registers zero but V, which is (0, x)
abbrev pub blank : ℕ → ℕ → Bench
blank x n =
    record {
      n = n;
      v = halves 0 x;
      p = claim 0 0 0;
      a = replicate 33 (halves 0 0);
      r = replicate 33 (halves 0 0);
      stations = replicate 33 (resting 0);
    }

abbrev pub station_at : Bench → ℕ → Station
station_at w i = get_or w.stations i (resting 0)

abbrev pub a_at : Bench → ℕ → Halves
a_at w i = get_or w.a i (halves 0 0)

abbrev pub r_at : Bench → ℕ → Halves
r_at w i = get_or w.r i (halves 0 0)

abbrev pub put_station : ℕ → Station → Bench → Bench
put_station i t w = record { n = w.n; v = w.v; p = w.p; a = w.a; r = w.r; stations = set w.stations i t }

abbrev pub put_a : ℕ → Halves → Bench → Bench
put_a i e w = record { n = w.n; v = w.v; p = w.p; a = set w.a i e; r = w.r; stations = w.stations }

abbrev pub put_r : ℕ → Halves → Bench → Bench
put_r i e w = record { n = w.n; v = w.v; p = w.p; a = w.a; r = set w.r i e; stations = w.stations }

abbrev pub put_v : Halves → Bench → Bench
put_v v w = record { n = w.n; v = v; p = w.p; a = w.a; r = w.r; stations = w.stations }

abbrev pub put_p : Claim → Bench → Bench
put_p p w = record { n = w.n; v = w.v; p = p; a = w.a; r = w.r; stations = w.stations }

abbrev pub turned : Answer → Bench → Turned
turned x w = record { answer = x; bench = w }

-- the registers of the bench, for the step table: every station has the one V and P
abbrev pub on_bench : Access Bench Turned
on_bench =
    record {
      v = λ w i. w.v;
      p = λ w i. w.p;
      a = a_at;
      r = r_at;
      put_v = λ i v w. put_v v w;
      put_p = λ i p w. put_p p w;
      put_a = put_a;
      put_r = put_r;
      put_station = put_station;
      give = turned;
    }
