-- Facts by place: types that compute on the place where a station stands. Assumes nothing.
use mathlib.Core.Path.{◌≡◌, refl}
use mathlib.Core.Logic.{◌⊎◌, inl, inr, ⊎_elim}
use mathlib.Core.Bool.{cond, ◌&&◌}
use Prim.Native.Nat.{ℕ, ◌≤◌}
use native.Mathlib.Omega.{arith}
use borrow.Author.Tests.{leb-true, le-leb, ne_eqb}
use lib.Dec.{leb, eqb}
use Rattle.rules.specs.Test.{When}
use Rattle.rules.proofs.Facts.{either_way, and_left, and_right}
use Rattle.method.specs.declared.Place.{Place}
use Rattle.method.specs.declared.Place.TheVariants.{Rest, At11, At12, At13, At14, At15, At16, At18, At19, At20}
use Rattle.method.specs.Record.{num}

-- a fact at the places k to m
abbrev pub At : ℕ → ℕ → Place → Type 0 → Type 0
At k m q X = When (leb k (num q) && leb (num q) m) X

-- a fact from place k on
abbrev pub From : ℕ → Place → Type 0 → Type 0
From k q X = At k 20 q X

-- a station is at rest or in a call
pub rest_or_call : (q : Place) → (num q ≡ 0) ⊎ ((11 ≤ num q) × (num q ≤ 20))
rest_or_call Rest = inl refl
rest_or_call At11 = inr (omega arith)
rest_or_call At12 = inr (omega arith)
rest_or_call At13 = inr (omega arith)
rest_or_call At14 = inr (omega arith)
rest_or_call At15 = inr (omega arith)
rest_or_call At16 = inr (omega arith)
rest_or_call At18 = inr (omega arith)
rest_or_call At19 = inr (omega arith)
rest_or_call At20 = inr (omega arith)

module _ {X : Type 0} (k m : ℕ) (q : Place) where
  pub at_get : k ≤ num q → num q ≤ m → At k m q X → X
  at_get low high h = rw (le-leb k (num q) low, le-leb (num q) m high) at h

  pub at_map : {Y : Type 0} → (k ≤ num q → num q ≤ m → X → Y) → At k m q X → At k m q Y
  at_map f h =
      either_way (leb k (num q) && leb (num q) m)
      (λ e.
      let low = leb-true k (num q) (and_left (leb k (num q)) (leb (num q) m) e) in
      let high = leb-true (num q) m (and_right (leb k (num q)) (leb (num q) m) e) in
      rw e (f low high (at_get low high h)))
      (λ e. rw e tt)

module _ {X : Type 0} (k : ℕ) (q : Place) where
  pub from_get : k ≤ num q → From k q X → X
  from_get low h = at_get k 20 q low (⊎_elim (λ e. omega arith) (λ b. b.1) (rest_or_call q)) h

  pub from-map : {Y : Type 0} → (k ≤ num q → X → Y) → From k q X → From k q Y
  from-map f h = at_map k 20 q (λ low _ x. f low x) h

-- at 12 the count has grown and R has yet to follow
abbrev pub behind : Place → ℕ
behind q = cond (eqb (num q) 12) 1 0

pub not_behind : (q : Place) → 13 ≤ num q → behind q ≡ 0
not_behind q h = rw (ne_eqb (num q) 12 (omega arith))
