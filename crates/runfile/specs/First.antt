-- The first index at which a test holds: one search for calls and turns alike. Assumes nothing.
use Rattle.std.specs.Prelude.{◌≡◌, Bool, true, false, cond, ℕ, zero, suc, ◌<◌, Option, MatchOption}

-- of the m indices from i on, the first at which p holds, counted from 1; 0 where p holds at none
unfoldable pub first_from : (ℕ → Bool) → ℕ → ℕ → ℕ
first_from p i zero = 0
first_from p i (suc m) = cond (p i) (suc i) (first_from p (suc i) m)

abbrev pub first_of : (ℕ → Bool) → ℕ → ℕ
first_of p m = first_from p 0 m

-- what a search of m indices tells: the first, counted from 0, at which p holds, or that there is none
abbrev pub Tells : (ℕ → Bool) → ℕ → Option ℕ → Type 0
Tells p m r =
    MatchOption r ((i : ℕ) → i < m → p i ≡ false)
    (λ k. (k < m) × (p k ≡ true) × ((i : ℕ) → i < k → p i ≡ false))
