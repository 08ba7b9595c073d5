-- A run's start: a fresh bench and an empty book, within their limits. Assumes nothing.
use mathlib.Core.Path.{refl}
use mathlib.Core.List.{List}
use Prim.Native.Nat.{ℕ, zero, suc, ◌<◌, ◌≤◌}
use native.Mathlib.Omega.{arith}
use Rattle.card.specs.declared.Halves.{Halves}
use Rattle.card.specs.Register.{halves}
use Rattle.method.specs.Record.{resting}
use Rattle.bench.specs.Record.{blank}
use Rattle.rules.specs.Limits.{call_limit}
use Rattle.runfile.specs.Layout.{records}
use Rattle.run.specs.Row.{by_call, by_station, point_count, CallsWithin}
use Rattle.run.specs.Run.{first_calls, empty_book}
use Rattle.limits.specs.Within.{value_limit, StationWithin, Within}
use Rattle.limits.proofs.Elements.{one_more, all_same}
use Rattle.limits.proofs.Books.{BookWithin, call_after_lem}

pub blank_within : (x n : ℕ) → x < value_limit → Within 0 (blank x n)
blank_within x n h =
    record {
      version = omega arith;
      value = h;
      claim = omega arith;
      entry = all_same (λ (e : Halves). e.second < value_limit) 33 (halves 0 0) (omega arith);
      station = all_same (StationWithin 0 0) 33 (resting 0) (omega arith);
    }

module _ (table : List ℕ) (few : records table ≤ call_limit) where
  firsts : (k : ℕ) → CallsWithin (first_calls table k)
  unfolding first_calls
  firsts zero j = omega arith
  firsts (suc k) j = one_more (λ c. c < by_call) (first_calls table k) _ 0 (call_after_lem table k 0 few) (firsts k) j

  pub empty_within : BookWithin 0 0 (empty_book table)
  unfolding point_count
  empty_within =
      record {
        upcoming = firsts by_station;
        latest = all_same (λ c. c < by_call) by_station 0 (omega arith);
        own = all_same (λ x. x ≤ 10) by_call 0 (omega arith);
        result = all_same (λ x. x < value_limit) by_call 0 (omega arith);
        last = all_same (λ x. x ≤ 0) by_call 0 (omega arith);
        points = record {
          points = refl;
          listed = refl;
          none = refl;
          latest = all_same (λ x. x ≤ 0) by_call 0 (omega arith);
          calls = λ i. omega arith;
        };
        idle = omega arith;
        begun = omega arith;
        ended = omega arith;
      }
