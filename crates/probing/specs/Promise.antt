-- What is promised of benches in numbers, that no field is lost or exchanged; of the input, that good cases are answered in order; and of feeding, that
-- its contracts settle all. Assumes nothing.
use Rattle.std.specs.Prelude.{◌≡◌, true, List, [], ◌∷◌, ◌++◌, ℕ, ◌<◌, length, get_or}
use Rattle.script.specs.Number.{no_number}
use Rattle.bench.specs.declared.Bench.{Bench}
use Rattle.probing.specs.declared.Probe.{Probe}
use Rattle.probing.specs.declared.Said.{Said}
use Rattle.probing.specs.Numbers.{bench_of, numbers_of, places_to}
use Rattle.probing.specs.Text.{newline, in_line, case_text}
use Rattle.probing.specs.Feed.{case_size, no_reading, probe, k_more, output_from, output_of, FedTo, ClosedTo}

-- the numbers of a bench say that bench. Its arrays have 33 entries, as every bench's have
unfoldable pub NumbersSayBenches : Type 0
NumbersSayBenches =
    (w : Bench) → length w.a ≡ 33 → length w.r ≡ 33 → length w.stations ≡ 33 → bench_of (numbers_of w) ≡ w

-- a case of numbers of 32 bits, with good places
pub record GoodCase (xs : List ℕ) : Type 0 where
  pub size : length xs ≡ case_size
  pub numbers : (i : ℕ) → get_or xs i 0 < no_number
  pub places : places_to xs 33 ≡ true

abbrev pub AllGood : List (List ℕ) → Type 0
AllGood [] = Unit {0}
AllGood (xs ∷ cases) = GoodCase xs × AllGood cases

-- cases written out, a line each, and their texts
unfoldable pub input : List (List ℕ) → List ℕ
input [] = []
input (xs ∷ cases) = in_line xs ++ newline ++ input cases

unfoldable pub answers : List (List ℕ) → List ℕ
answers [] = []
answers (xs ∷ cases) = case_text xs ++ answers cases

pub record CasesAreRead : Type 0 where
  -- a good case is answered wherever it stands in the input, and what follows it is the next case
  pub one : (k : ℕ) (row xs rest : List ℕ) → length row ≡ case_size → GoodCase xs
      → output_from (probe k no_reading) row (in_line xs ++ newline ++ rest) ≡ case_text xs ++ output_from (probe (k_more k) no_reading) xs rest
  -- good cases are answered one after the other, and nothing else is written
  pub all : (cases : List (List ℕ)) → AllGood cases → output_of (input cases) ≡ answers cases

-- two answers with their rows and buffers that the contracts allow for one input are the same
pub record FeedingSettled : Type 0 where
  pub fed : (p : Probe) (b : ℕ) (row row₁ row₂ out out₁ out₂ : List ℕ) (x y : Said) → FedTo p b row row₁ out out₁ x → FedTo p b row row₂ out out₂ y
      → (x ≡ y) × ((row₁ ≡ row₂) × (out₁ ≡ out₂))
  pub closed : (p : Probe) (row row₁ row₂ out out₁ out₂ : List ℕ) (x y : ℕ) → ClosedTo p row row₁ out out₁ x → ClosedTo p row row₂ out out₂ y
      → (x ≡ y) × ((row₁ ≡ row₂) × (out₁ ≡ out₂))
