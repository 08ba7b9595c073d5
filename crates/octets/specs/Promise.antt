-- What is promised of little-endian bytes: spelling and writing are each other's inverse, at every width. Assumes nothing.
use Rattle.std.specs.Prelude.{◌≡◌, List, ℕ, ◌^◌, ◌<◌, length}
use Rattle.octets.specs.Bytes.{bytes, spelled, AllBytes}

pub record Inverse : Type 0 where
  -- k bytes of a number that fits them spell it
  pub spells_written : (k x : ℕ) → x < 256 ^ k → spelled (bytes k x) ≡ x
  -- the number that bytes spell, written at their width, is those bytes
  pub writes_spelled : (s : List ℕ) → AllBytes s → bytes (length s) (spelled s) ≡ s
  -- the number that bytes spell fits their width
  pub fits : (s : List ℕ) → AllBytes s → spelled s < 256 ^ length s
