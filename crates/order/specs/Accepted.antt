-- Which lists of calls are accepted for a log: those that one word, served one call at a time in list order, agrees with, entry by entry. Assumes nothing.
use Rattle.std.specs.Prelude.{cond, ◌≡◌, List, [], ◌∷◌, ℕ, ◌+◌, ◌≤◌, ◌<◌, eqb, length, get_or, take}
use Rattle.method.specs.declared.Call.{Call}
use Rattle.method.specs.OneWord.{answer, left, Agrees}
use Rattle.order.specs.Log.{Log}

-- how often call c stands in a list
unfoldable pub times : ℕ → List ℕ → ℕ
times c [] = 0
times c (d ∷ ds) = cond (eqb c d) 1 0 + times c ds

-- of each call in a list
unfoldable pub Each : (ℕ → Type 0) → List ℕ → Type 0
Each P [] = Unit {0}
Each P (c ∷ cs) = P c × Each P cs

-- what a word that holds x at first holds after it has served the list's calls one at a time
unfoldable pub served : ℕ → (ℕ → Call) → List ℕ → ℕ
served x call [] = x
served x call (d ∷ ds) = served (left x (call d)) call ds

-- call c fits the entries before it. `first`, `last`: a call's first and last turn; 0 where it has not begun, or not ended
pub record Fits (x : ℕ) (g : Log) (before : List ℕ) (c : ℕ) : Type 0 where
  -- it has begun, and does not stand among them
  pub begun : 1 ≤ g.first c
  pub new : times c before ≡ 0
  -- none of them began after it had ended
  pub order : 1 ≤ g.last c → Each (λ d. g.first d ≤ g.last c) before
  -- an ended read or set has the answer of the word that has served them, open ones as if done; what a swap hands back is not covered
  pub answers : 1 ≤ g.last c → Agrees (g.call c) (answer (served x g.call before) (g.call c)) (g.result c)

-- each entry fits those before it, and no ended call is missing
pub record Accepted (x : ℕ) (g : Log) (list : List ℕ) : Type 0 where
  pub fits : (i : ℕ) → i < length list → Fits x g (take i list) (get_or list i 0)
  pub every : (c : ℕ) → 1 ≤ g.last c → 1 ≤ times c list
