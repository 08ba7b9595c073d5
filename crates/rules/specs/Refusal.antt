-- Numbered refusals: a table of numbers with their conditions, in the order in which they are looked at, and the one that is given. Assumes nothing.
use Rattle.std.specs.Prelude.{◌≡◌, ◌↔◌, Bool, true, false, cond, not, ◌&&◌, ◌||◌, List, [], ◌∷◌, ℕ, ◌<◌, eqb, ltb}

pub record Refusal : Type 0 where
  pub number : ℕ
  pub holds : Bool

abbrev pub refusal : ℕ → Bool → Refusal
refusal n b = record { number = n; holds = b }

-- the refusal that is given: the first of the table that holds, and 0 where none does
abbrev pub refusal_of : List Refusal → ℕ
refusal_of [] = 0
refusal_of (r ∷ rs) = cond r.holds r.number (refusal_of rs)

-- whether refusal n of the table holds
unfoldable pub holds_at : List Refusal → ℕ → Bool
holds_at [] n = false
holds_at (r ∷ rs) n = cond (eqb n r.number) r.holds (holds_at rs n)

-- whether one that stands before refusal n holds
unfoldable pub earlier : List Refusal → ℕ → Bool
earlier [] n = false
earlier (r ∷ rs) n = cond (eqb n r.number) false (r.holds || earlier rs n)

-- each number is above 0 and stands once
abbrev pub absent : ℕ → List Refusal → Bool
absent n [] = true
absent n (r ∷ rs) = not (eqb n r.number) && absent n rs

abbrev pub proper : List Refusal → Bool
proper [] = true
proper (r ∷ rs) = ltb 0 r.number && absent r.number rs && proper rs

-- the first in the table's order: a refusal is given exactly when it holds and none before it does; none is given exactly when none holds
pub record GivenExactly (rs : List Refusal) : Type 0 where
  pub some : (n : ℕ) → ((refusal_of rs ≡ n) × (ltb 0 n ≡ true)) ↔ ((holds_at rs n ≡ true) × (earlier rs n ≡ false))
  pub none : (refusal_of rs ≡ 0) ↔ ((n : ℕ) → holds_at rs n ≡ false)

unfoldable pub FirstIsGiven : Type 0
FirstIsGiven = (rs : List Refusal) → proper rs ≡ true → GivenExactly rs

-- the table's numbers rise, from above 0
abbrev pub rising_from : ℕ → List Refusal → Bool
rising_from n [] = true
rising_from n (r ∷ rs) = ltb n r.number && rising_from r.number rs

abbrev pub rising : List Refusal → Bool
rising rs = rising_from 0 rs

-- the lowest number that holds: a refusal is given exactly when it holds and no lower one does; none is given exactly when none holds
pub record LowestGiven (rs : List Refusal) : Type 0 where
  pub some : (n : ℕ) → ((refusal_of rs ≡ n) × (ltb 0 n ≡ true)) ↔ ((holds_at rs n ≡ true) × ((m : ℕ) → m < n → holds_at rs m ≡ false))
  pub none : (refusal_of rs ≡ 0) ↔ ((n : ℕ) → holds_at rs n ≡ false)

unfoldable pub LowestIsGiven : Type 0
LowestIsGiven = (rs : List Refusal) → rising rs ≡ true → LowestGiven rs
