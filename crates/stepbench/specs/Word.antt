-- The word that a function for C hands back: a refusal N in bits 63 to 56, its K in bits 55 to 32, a length in bits 31 to 0. Assumes nothing.
use Rattle.std.specs.Prelude.{◌≡◌, ℕ, ◌+◌, ◌*◌, ◌/◌, ◌%◌, ◌^◌, ◌<◌}

abbrev pub packed_word : ℕ → ℕ → ℕ → ℕ
packed_word n k len = (n % 2 ^ 8 * 2 ^ 24 + k % 2 ^ 24) * 2 ^ 32 + len % 2 ^ 32

-- STEPBENCH_REFUSED, STEPBENCH_K and STEPBENCH_LENGTH of the header
abbrev pub refused_in : ℕ → ℕ
refused_in w = w / 2 ^ 32 / 2 ^ 24

abbrev pub k_in : ℕ → ℕ
k_in w = w / 2 ^ 32 % 2 ^ 24

abbrev pub length_in : ℕ → ℕ
length_in w = w % 2 ^ 32

pub record Apart (w n k len : ℕ) : Type 0 where
  pub refused : refused_in w ≡ n
  pub k_told : k_in w ≡ k
  pub length_told : length_in w ≡ len

-- what fits comes out as it was put in
unfoldable pub WordsComeApart : Type 0
WordsComeApart = (n k len : ℕ) → n < 2 ^ 8 → k < 2 ^ 24 → len < 2 ^ 32 → Apart (packed_word n k len) n k len
