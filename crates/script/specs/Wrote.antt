-- What every writer of text does with a lent buffer: one record for all their contracts. Assumes nothing.
use Rattle.std.specs.Prelude.{◌≡◌, List, ℕ, ◌+◌, ◌≤◌, min, length}
use Rattle.std.proofs.lemmas.List.Edits.{sets}

-- the last place that a place can be: no buffer is longer
abbrev pub last_place : ℕ
last_place = 18446744073709551615

-- a place that would be further on stays at the last one, where no buffer has a byte
abbrev pub cut : ℕ → ℕ
cut k = min k last_place

-- the text stands from place at on, as far as the buffer goes, and the next place is after it
pub record Wrote (out out' : List ℕ) (at next : ℕ) (text : List ℕ) : Type 0 where
  pub stands : out' ≡ sets out at text
  pub after : next ≡ cut (at + length text)
  pub lent : length out ≤ last_place
