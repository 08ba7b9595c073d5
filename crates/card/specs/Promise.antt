-- What is promised of the card: R9 of document 01's "Runs to check", P's packing over any split, and that P is a register of two halves. Assumes nothing.
use Rattle.std.specs.Prelude.{◌≡◌, ℕ, ◌+◌, ◌^◌, ◌/◌, ◌%◌, ◌<◌}
use Rattle.card.specs.declared.Claim.{Claim}
use Rattle.card.specs.Register.{halves, max_write, half_max, max_claim, half_claim}
use Rattle.card.specs.Word.{Split, packed, packed_claim}

-- on (4, 1): max-write (4, 2) gives (4, 2), (3, 9) changes nothing; half-max 4 changes nothing, 5 gives (5, 1)
pub record R9 : Type 0 where
  pub equal : max_write (halves 4 1) 4 2 ≡ halves 4 2
  pub smaller : max_write (halves 4 1) 3 9 ≡ halves 4 1
  pub same : half_max (halves 4 1) 4 ≡ halves 4 1
  pub larger : half_max (halves 4 1) 5 ≡ halves 5 1

-- a pid and a count that fit come out of the packed half again, and the half fits its bits
pub record Packs (k : Split) (pid c : ℕ) : Type 0 where
  pub station : pid < 2 ^ k.pid_bits → packed k pid c / 2 ^ k.c_bits ≡ pid
  pub count : c < 2 ^ k.c_bits → packed k pid c % 2 ^ k.c_bits ≡ c
  pub fits : packed k pid c < 2 ^ (k.pid_bits + k.c_bits)

-- max-write and half-max of P are those of its two halves
pub record TwoHalves (k : Split) (p : Claim) (f i c : ℕ) : Type 0 where
  pub max_writes : packed_claim k (max_claim p f i c) ≡ max_write (packed_claim k p) f (packed k i c)
  pub half_maxes : packed_claim k (half_claim p f) ≡ half_max (packed_claim k p) f

pub record Card : Type 0 where
  pub r9 : R9
  pub packs : (k : Split) (pid c : ℕ) → Packs k pid c
  pub two_halves : (k : Split) (p : Claim) (f i c : ℕ) → TwoHalves k p f i c
