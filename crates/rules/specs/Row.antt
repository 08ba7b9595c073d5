-- The table of numbered refusals with its three columns, number, when and K, and what it gives: the number and its K. Assumes nothing.
use Rattle.std.specs.Prelude.{◌≡◌, Bool, true, cond, List, [], ◌∷◌, ℕ, eqb}
use Rattle.rules.specs.Refusal.{Refusal, refusal, refusal_of, proper, GivenExactly}

-- a refusal's number and its K; zeros where nothing is refused
pub record Verdict : Type 0 where
  pub refused : ℕ
  pub k : ℕ

pub record Row : Type 0 where
  pub number : ℕ
  pub holds : Bool
  pub k : ℕ

abbrev pub row : ℕ → Bool → ℕ → Row
row n b k = record { number = n; holds = b; k = k }

abbrev pub verdict : ℕ → ℕ → Verdict
verdict n k = record { refused = n; k = k }

-- what is given: the first row that holds, and zeros where none does
abbrev pub verdict_of : List Row → Verdict
verdict_of [] = verdict 0 0
verdict_of (r ∷ rs) = cond r.holds (verdict r.number r.k) (verdict_of rs)

-- the first two columns
abbrev pub refusals : List Row → List Refusal
refusals [] = []
refusals (r ∷ rs) = refusal r.number r.holds ∷ refusals rs

-- the third: the K that number n of the table names, and 0 where the table has no such number
abbrev pub k_at : List Row → ℕ → ℕ
k_at [] n = 0
k_at (r ∷ rs) n = cond (eqb n r.number) r.k (k_at rs n)

-- a table gives its numbers exactly, each with the K that its row names; K is 0 where nothing is refused
pub record RowsExactly (rs : List Row) : Type 0 where
  pub number : (verdict_of rs).refused ≡ refusal_of (refusals rs)
  pub exactly : GivenExactly (refusals rs)
  pub k : (verdict_of rs).k ≡ k_at rs (verdict_of rs).refused

unfoldable pub ExactRows : Type 0
ExactRows = (rs : List Row) → proper (refusals rs) ≡ true → RowsExactly rs
