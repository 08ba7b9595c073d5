-- What a turn may do to the registers, each kind by itself. Assumes nothing.
use mathlib.Core.Path.{◌≡◌, refl}
use Prim.Native.Nat.{ℕ, ◌+◌, ◌≤◌, ◌<◌}
use Rattle.card.specs.declared.Halves.{Halves}
use Rattle.card.specs.declared.Claim.{Claim}
use Rattle.method.specs.World.{World}
use Rattle.method.proofs.Kept.{Contends}

-- an entry of A is as it was, or 11 wrote it with a count that R does not have yet
pub data AStep (r a a' : Halves) : Type 0 where
  keeps : a' ≡ a → AStep r a a'
  grows : r.first < a'.first → AStep r a a'

-- an entry of R is as it was, or 12 wrote it with a new count, or 18 wrote it for the call that P names
pub data RStep (i : ℕ) (v : Halves) (p : Claim) (r r' : Halves) : Type 0 where
  keeps : r' ≡ r → RStep i v p r r'
  grows : r.first < r'.first → RStep i v p r r'
  wins : r'.first ≡ r.first → r'.second ≡ 1 → p.seq ≡ v.first + 2 → p.pid ≡ i → RStep i v p r r'

-- 19 raises V to P's version, for the call that P names
pub record Raises (w : World) (v v' : Halves) (p : Claim) : Type 0 where
  pub version : v'.first ≡ p.seq
  pub next : p.seq ≡ v.first + 2
  pub told : (w.r p.pid).second ≡ 1
  pub count : (w.a p.pid).first ≡ p.c
  pub value : (w.a p.pid).second ≡ v'.second

pub data VStep (w : World) (v v' : Halves) (p p' : Claim) : Type 0 where
  keeps : v' ≡ v → VStep w v v' p p'
  raises : Raises w v v' p → p' ≡ p → VStep w v v' p p'

-- 13 or 14 writes P of word z for the version that V has
pub record Opens (w : World) (z : ℕ) (v : Halves) (p p' : Claim) : Type 0 where
  pub before : p.seq ≤ v.first + 1
  pub grows : p.seq ≤ p'.seq
  pub low : v.first + 1 ≤ p'.seq
  pub high : p'.seq ≤ v.first + 2
  pub word : w.word p'.pid ≡ z
  pub contends : Contends v p' (w.st p'.pid)

pub data PStep (w : World) (z : ℕ) (v : Halves) (p p' : Claim) : Type 0 where
  keeps : p' ≡ p → PStep w z v p p'
  opens : Opens w z v p p' → PStep w z v p p'

-- the registers of w become v', p', a' and r'
pub record Step (w : World) (v' : ℕ → Halves) (p' : ℕ → Claim) (a' r' : ℕ → Halves) : Type 0 where
  pub v : (z : ℕ) → VStep w (w.v z) (v' z) (w.p z) (p' z)
  pub p : (z : ℕ) → PStep w z (w.v z) (w.p z) (p' z)
  pub a : (i : ℕ) → AStep (w.r i) (w.a i) (a' i)
  pub r : (i : ℕ) → RStep i (w.v (w.word i)) (w.p (w.word i)) (w.r i) (r' i)

-- they stay
pub none : (w : World) → Step w w.v w.p w.a w.r
none w = record { v = λ z. keeps refl; p = λ z. keeps refl; a = λ i. keeps refl; r = λ i. keeps refl }
