-- A contract with a lent buffer or row allows one result and one buffer or row. Assumes nothing.
use mathlib.Core.Path.{◌≡◌, refl, ◌∙◌, sym, ap}
use mathlib.Core.List.{List}
use Prim.Native.Nat.{ℕ}
use Rattle.std.specs.Prelude.{Result, Ok, Err, cond, eqb}
use Rattle.method.specs.declared.Place.{Place}
use Rattle.method.specs.declared.Place.TheVariants.{Rest, At11, At12, At13, At14, At15, At16, At18, At19, At20}
use Rattle.method.specs.declared.NoPlace.{NoPlace}
use Rattle.method.specs.Record.{num, Names}
use Rattle.rules.specs.declared.Reason.{Reason}
use Rattle.rules.proofs.Reasons.{numbers_tell}
use Rattle.run.specs.declared.Trace.{Trace}
use Rattle.run.specs.Drive.{run_of_file}
use Rattle.run.specs.Trace.{TraceNumbers, trace_numbers, traced_on, TracedTo}
use Rattle.run.proofs.Traces.{trace_tells}
use Rattle.promises.specs.Unique.{Left, Unique, OneResult}

-- of the run's trace, and the row that was lent for it
by_trace_numbers : (file row : List ℕ) → Unique (Left TraceNumbers) (λ r. TracedTo file row r.result r.out)
by_trace_numbers file row x y p q =
    let e : x.result ≡ y.result = p.answered ∙ sym q.answered in
    λ i. record { result = e i; out = (p.left ∙ ap (λ t. traced_on t (run_of_file file).book row) e ∙ sym q.left) i }

by_trace : (file row : List ℕ) → Unique (Left (Result Trace Reason)) (λ r. TracedTo file row (trace_numbers r.result) r.out)
by_trace file row x y p q =
    let numbered : Result Trace Reason → List ℕ → Left TraceNumbers = λ r out. record { result = trace_numbers r; out = out } in
    let e : numbered x.result x.out ≡ numbered y.result y.out = by_trace_numbers file row (numbered x.result x.out) (numbered y.result y.out) p q in
    λ i. record { result = trace_tells x.result y.result (ap (λ l. l.result) e) i; out = (e i).out }

-- the place of a number; what no place has is taken for the last one
place_with : ℕ → Place
place_with x =
    cond (eqb x 0) Rest (cond (eqb x 11) At11 (cond (eqb x 12) At12 (cond (eqb x 13) At13 (cond (eqb x 14) At14
    (cond (eqb x 15) At15 (cond (eqb x 16) At16 (cond (eqb x 18) At18 (cond (eqb x 19) At19 At20))))))))

had_back : (p : Place) → place_with (num p) ≡ p
unfolding place_with
had_back Rest = refl
had_back At11 = refl
had_back At12 = refl
had_back At13 = refl
had_back At14 = refl
had_back At15 = refl
had_back At16 = refl
had_back At18 = refl
had_back At19 = refl
had_back At20 = refl

by_number : (number : ℕ) → Unique (Result Place NoPlace) (Names number)
by_number number (Ok p) (Ok q) v w = ap Ok (sym (had_back p) ∙ ap place_with (v ∙ sym w) ∙ had_back q)
by_number number (Ok p) (Err e) v w = absurd (w p v)
by_number number (Err d) (Ok q) v w = absurd (v q w)
by_number number (Err d) (Err e) v w = refl

pub one_result : OneResult
one_result =
    record {
      place = by_number;
      picture_numbers = λ w out x y p q i. record { result = (p.answered ∙ sym q.answered) i; out = (p.left ∙ sym q.left) i };
      traced_numbers = by_trace_numbers;
      picture =
          λ w out x y p q i. record { result = numbers_tell.answers x.result y.result (p.answered ∙ sym q.answered) i; out = (p.left ∙ sym q.left) i };
      traced = by_trace;
    }
