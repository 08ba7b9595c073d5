-- What is promised of writers: their contract settles the buffer and the next place. Assumes nothing.
use Rattle.std.specs.Prelude.{◌≡◌, List, ℕ}
use Rattle.script.specs.Wrote.{Wrote}

-- two buffers with their next places that the contract allows for one text are the same
unfoldable pub WritersSettled : Type 0
WritersSettled =
    (out a b : List ℕ) (at i j : ℕ) (text : List ℕ) → Wrote out a at i text → Wrote out b at j text → (a ≡ b) × (i ≡ j)
