-- Rules as lists of tests: what they compute, and what they say as facts about numbers. Assumes nothing.
use Rattle.std.specs.Prelude.{◌≡◌, ◌⊎◌, ◌≢◌, Bool, true, false, not, ◌&&◌, ◌||◌, List, [], ◌∷◌, ℕ, ◌%◌, ◌≤◌, leb, eqb}

-- two numbers are the same, or differ; the first is at most the second; a number is even; the first is one of the other two
pub data Test : Type 0 where
  same differ at_most : ℕ → ℕ → Test
  even : ℕ → Test
  one_of : ℕ → ℕ → ℕ → Test

-- a rule: where the condition is met, all the tests pass
pub record Rule : Type 0 where
  pub condition : Bool
  pub tests : List Test

abbrev pub given : Bool → List Test → Rule
given b l = record { condition = b; tests = l }

abbrev pub always : List Test → Rule
always l = given true l

-- computed
abbrev pub passes : Test → Bool
passes (same x y) = eqb x y
passes (differ x y) = not (eqb x y)
passes (at_most x y) = leb x y
passes (even x) = eqb (x % 2) 0
passes (one_of x y z) = eqb x y || eqb x z

abbrev pub pass : List Test → Bool
pass [] = true
pass (t ∷ []) = passes t
pass (t ∷ u ∷ l) = passes t && pass (u ∷ l)

abbrev pub kept : Rule → Bool
kept r = not r.condition || pass r.tests

abbrev pub all_kept : List Rule → Bool
all_kept [] = true
all_kept (r ∷ []) = kept r
all_kept (r ∷ q ∷ l) = kept r && all_kept (q ∷ l)

-- as facts
abbrev pub Says : Test → Type 0
Says (same x y) = x ≡ y
Says (differ x y) = x ≢ y
Says (at_most x y) = x ≤ y
Says (even x) = x % 2 ≡ 0
Says (one_of x y z) = (x ≡ y) ⊎ (x ≡ z)

abbrev pub Facts : List Test → Type 0
Facts [] = Unit {0}
Facts (t ∷ l) = Says t × Facts l

abbrev pub When : Bool → Type 0 → Type 0
When true X = X
When false X = Unit {0}

abbrev pub Kept : Rule → Type 0
Kept r = When r.condition (Facts r.tests)

abbrev pub AllKept : List Rule → Type 0
AllKept [] = Unit {0}
AllKept (r ∷ l) = Kept r × AllKept l
