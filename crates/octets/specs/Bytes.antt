-- Numbers in little-endian bytes, at any width. Assumes nothing.
use Rattle.std.specs.Prelude.{List, [], ◌∷◌, ℕ, zero, suc, ◌+◌, ◌*◌, ◌/◌, ◌%◌, ◌<◌, get_or}

-- the k bytes of x, lowest first
unfoldable pub bytes : ℕ → ℕ → List ℕ
bytes zero x = []
bytes (suc k) x = x % 256 ∷ bytes k (x / 256)

-- the number that the bytes spell, lowest first
unfoldable pub spelled : List ℕ → ℕ
spelled [] = 0
spelled (b ∷ bs) = b + 256 * spelled bs

-- every element is a byte
abbrev pub AllBytes : List ℕ → Type 0
AllBytes s = (i : ℕ) → get_or s i 0 < 256
