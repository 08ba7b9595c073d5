-- Pointwise update: its two cases, and a family kept at every index. Assumes nothing.
use mathlib.Core.Path.{◌≡◌, refl, subst⁻¹}
use Prim.Native.Nat.{ℕ}
use borrow.Author.Tests.{eqb-true, eqb-false, eq-eqb, ne_eqb}
use lib.Dec.{eqb}
use Rattle.rules.proofs.Facts.{either_way}
use Rattle.method.specs.Update.{upd}

module _ {X : Type 0} (f : ℕ → X) (i : ℕ) (x : X) where
  pub upd_same : upd f i x i ≡ x
  unfolding upd
  upd_same = rw (eq-eqb i i refl)

  pub upd_other : (j : ℕ) → (j ≡ i → ⊥) → upd f i x j ≡ f j
  unfolding upd
  upd_other j h = rw (ne_eqb j i h)

  -- what holds of the new value at i, and of each old value elsewhere, holds everywhere
  pub upd_all : (P : ℕ → X → Type 0) → P i x → ((j : ℕ) → (j ≡ i → ⊥) → P j (f j)) → (j : ℕ) → P j (upd f i x j)
  unfolding upd
  upd_all P new old j =
      either_way (eqb j i)
      (λ e. rw e (subst⁻¹ (λ k. P k x) (eqb-true j i e) new))
      (λ e. rw e (old j (eqb-false j i e)))

-- an update that changes nothing
pub upd_id : {X : Type 0} (f : ℕ → X) (i : ℕ) (x : X) → x ≡ f i → upd f i x ≡ f
upd_id f i x e = λ d j. upd_all f i x (λ j y. y ≡ f j) e (λ j _. refl) j d
