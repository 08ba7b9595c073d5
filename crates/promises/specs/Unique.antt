-- For each public function whose contract is not one equation: two results that it allows for one input are equal, each lent byte with them.
-- A contract that is one equation, r ≡ f of the inputs, needs nothing: r ≡ d and s ≡ d give r ≡ s, whatever d is. So with `octets::store`, which answers nothing and whose
-- one equation is of the lent bytes. Those of `script` (which are also the contracts of `lines` and
-- `messages`), `runfile`, `runtext`, `drafting`, `sheet` and `probing` that have predicates are shown there, beside them. Assumes nothing.
use Rattle.std.specs.Prelude.{◌≡◌, List, Result, ℕ}
use Rattle.rules.specs.declared.Reason.{Reason}
use Rattle.rules.specs.Reason.{Numbers, numbers}
use Rattle.method.specs.declared.Place.{Place}
use Rattle.method.specs.declared.NoPlace.{NoPlace}
use Rattle.method.specs.Record.{Names}
use Rattle.bench.specs.declared.Bench.{Bench}
use Rattle.run.specs.declared.Trace.{Trace}
use Rattle.run.specs.Trace.{TraceNumbers, trace_numbers, TracedTo}
use Rattle.picture.specs.Picture.{DrawnTo}

-- a result and a lent buffer afterwards
pub record Left (X : Type 0) : Type 0 where
  pub result : X
  pub out : List ℕ

abbrev pub Unique : (X : Type 0) → (X → Type 0) → Type 0
Unique X allowed = (x y : X) → allowed x → allowed y → x ≡ y

-- each by the predicate that its function ensures; picture and trace of any numbers too
pub record OneResult : Type 0 where
  pub place : (number : ℕ) → Unique (Result Place NoPlace) (Names number)
  pub picture_numbers : (w : Bench) (out : List ℕ) → Unique (Left Numbers) (λ r. DrawnTo w out r.result r.out)
  pub traced_numbers : (file row : List ℕ) → Unique (Left TraceNumbers) (λ r. TracedTo file row r.result r.out)
  pub picture : (w : Bench) (out : List ℕ) → Unique (Left (Result ℕ Reason)) (λ r. DrawnTo w out (numbers r.result) r.out)
  pub traced : (file row : List ℕ) → Unique (Left (Result Trace Reason)) (λ r. TracedTo file row (trace_numbers r.result) r.out)
