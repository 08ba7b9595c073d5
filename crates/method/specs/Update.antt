-- A function changed at one index. Assumes nothing.
use Rattle.std.specs.Prelude.{cond, ℕ, eqb}

-- the function f, but x at i
unfoldable pub upd : {X : Type 0} → (ℕ → X) → ℕ → X → ℕ → X
upd f i x j = cond (eqb j i) x (f j)
