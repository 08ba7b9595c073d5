-- Decimal numbers as text. Assumes nothing.
use Rattle.std.specs.Prelude.{cond, List, [], ◌∷◌, ◌++◌, ℕ, zero, suc, ◌+◌, ◌/◌, ◌%◌, ltb}

-- the digit of a number below ten
abbrev pub digit : ℕ → ℕ
digit d = 48 + d

-- the digits of n, highest first, where n is at most k
unfoldable pub digits_in : ℕ → ℕ → List ℕ
digits_in zero n = digit n ∷ []
digits_in (suc k) n = cond (ltb n 10) (digit n ∷ []) (digits_in k (n / 10) ++ (digit (n % 10) ∷ []))

-- decimal without leading zeros
unfoldable pub decimal : ℕ → List ℕ
decimal n = digits_in n n
