-- What holds of each element of a row and of what is read past its end. Assumes nothing.
use mathlib.Core.List.{List, [], ◌∷◌, ◌++◌}
use mathlib.Core.Bool.{Bool, true, false, cond}
use Prim.Native.Nat.{ℕ, zero, suc}
use lib.ListN.{get_or, set, replicate}

module _ {X : Type 0} (P : X → Type 0) where
  -- after a store, one element more, and of a row of the same elements
  pub after_set : (l : List X) (i : ℕ) (x d : X) → P x → ((j : ℕ) → P (get_or l j d)) → (j : ℕ) → P (get_or (set l i x) j d)
  after_set [] i x d new old j = old j
  after_set (y ∷ l) zero x d new old zero = new
  after_set (y ∷ l) zero x d new old (suc j) = old (suc j)
  after_set (y ∷ l) (suc i) x d new old zero = old zero
  after_set (y ∷ l) (suc i) x d new old (suc j) = after_set l i x d new (λ m. old (suc m)) j

  pub one_more : (l : List X) (x d : X) → P x → ((j : ℕ) → P (get_or l j d)) → (j : ℕ) → P (get_or (l ++ (x ∷ [])) j d)
  one_more [] x d new old zero = new
  one_more [] x d new old (suc j) = old j
  one_more (y ∷ l) x d new old zero = old zero
  one_more (y ∷ l) x d new old (suc j) = one_more l x d new (λ m. old (suc m)) j

  pub all_same : (k : ℕ) (x : X) → P x → (j : ℕ) → P (get_or (replicate k x) j x)
  all_same zero x h j = h
  all_same (suc k) x h zero = h
  all_same (suc k) x h (suc j) = all_same k x h j

  -- what holds of both values holds of the one chosen
  pub chosen : (b : Bool) {x y : X} → P x → P y → P (cond b x y)
  chosen true p q = p
  chosen false p q = q
