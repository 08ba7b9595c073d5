-- The first index at which a test holds, an index at a time. Assumes nothing.
use mathlib.Core.Path.{◌≡◌, refl, ◌∙◌, sym}
use mathlib.Core.Logic.{◌⊎◌, inl, inr, ⊎_elim}
use mathlib.Core.Bool.{Bool, true, false, true≢false}
use Prim.Native.Nat.{ℕ, zero, suc, ◌+◌, ◌-◌, ◌<◌}
use native.Mathlib.Omega.{arith}
use native.Mathlib.Nat.{add-zero, zero-add}
use native.Mathlib.Numerals.{add-one}
use borrow.Author.Count.{below_more}
use Rattle.rules.proofs.Facts.{either_way}
use Rattle.std.specs.Prelude.{Option, Some, None}
use Rattle.runfile.specs.First.{first_from, first_of, Tells}
use Rattle.runfile.specs.Promise.{First, Searched}

-- the search: what it finds is the first of all where the indices below its start are passed
module _ (p : ℕ → Bool) where
  abbrev Passed : ℕ → Type 0
  Passed i = (j : ℕ) → j < i → p j ≡ false

  abbrev Found : ℕ → ℕ → Type 0
  Found m k = First p m k ⊎ ((k ≡ 0) × Passed m)

  from : (m i : ℕ) → Passed i → Found (i + m) (first_from p i m)
  unfolding first_from
  from zero i h = rw add-zero (inr (refl, h))
  from (suc m) i h =
      let e : suc i - 1 ≡ i = omega arith in
      let s : i + suc m ≡ suc i + m = omega arith in
      either_way (p i)
      (λ t. rw t (inl (record { some = omega arith; within = omega arith; holds = rw e t; before = rw e h })))
      (λ f. rw (f, s) (from m (suc i) (rw add-one at (below_more (λ j. p j ≡ false) i h f))))

  whole : (m : ℕ) → Found m (first_of p m)
  whole m = rw zero-add at (from m 0 (λ j h. absurd (omega arith)))

  never : {b : Bool} {X : Type 0} → b ≡ true → b ≡ false → X
  never t f = absurd (true≢false (sym t ∙ f))

  -- of two firsts neither is below the other
  not_below : (m k l : ℕ) → First p m k → First p m l → k < l → ⊥
  not_below m k l a b h =
      let i = a.some in
      never a.holds (b.before (k - 1) (omega arith))

  only : (m k l : ℕ) → First p m k → First p m l → k ≡ l
  only m k l a b =
      let u : k < l → ⊥ = not_below m k l a b in
      let v : l < k → ⊥ = not_below m l k b a in
      omega arith

  -- a first holds below m, so not all are passed
  not_all : (m k : ℕ) → First p m k → Passed m → ⊥
  not_all m k a h =
      let i = a.some in
      let j = a.within in
      never a.holds (h (k - 1) (omega arith))

  pub searched : (m : ℕ) → Searched p m
  searched m =
      record {
        found = λ k. (
          λ g. ⊎_elim (λ a. rw (← g.0) a) (λ z. let e = g.0 in let h = g.1 in let y = z.0 in absurd (omega arith)) (whole m),
          λ a. (⊎_elim (λ b. only m (first_of p m) k b a) (λ z. absurd (not_all m k a z.1)) (whole m), a.some),
        );
        none = (
          λ e. ⊎_elim (λ a. let h = a.some in absurd (omega arith)) (λ z. z.1) (whole m),
          λ h. ⊎_elim (λ a. absurd (not_all m (first_of p m) a h)) (λ z. z.0) (whole m),
        );
      }

-- what a search told that counts from 0, counted from 1; 0 where it found none
abbrev pub place_of : Option ℕ → ℕ
place_of None = 0
place_of (Some k) = k + 1

pub told : (p : ℕ → Bool) (m : ℕ) (r : Option ℕ) → Tells p m r → first_of p m ≡ place_of r
told p m None h = (searched p m).none.1 h
told p m (Some k) h =
    let e : k + 1 - 1 ≡ k = omega arith in
    let i = h.0 in
    let f : First p m (k + 1) = record { some = omega arith; within = omega arith; holds = rw e h.1; before = rw e h.2 } in
    (((searched p m).found (k + 1)).1 f).0
