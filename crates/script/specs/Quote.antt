-- A text in quotes, as bytes, so that definitions can be read. Assumes nothing.
use Rattle.std.specs.Prelude.{List, [] as []ᴸ, ◌∷◌ as ◌∷ᴸ◌, ℕ}
use Prim.Native.Char.{code}
use Prim.Native.String.{String, [], ◌∷◌}

-- the bytes of a text of plain characters: each one's code
abbrev pub quote : String → List ℕ
quote [] = []ᴸ
quote (c ∷ s) = code c ∷ᴸ quote s
