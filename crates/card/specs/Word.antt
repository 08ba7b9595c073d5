-- Document 01, "Registers": the 64-bit words of the picture, and how P's second half is split into pid and c. Assumes nothing.
use Rattle.std.specs.Prelude.{ℕ, ◌+◌, ◌*◌, ◌-◌, ◌^◌, ◌%◌}
use Rattle.card.specs.declared.Halves.{Halves}
use Rattle.card.specs.declared.Claim.{Claim}
use Rattle.card.specs.Register.{halves}

-- how many bits of P's second half are pid, and how many below them are c
pub record Split : Type 0 where
  pub pid_bits : ℕ
  pub c_bits : ℕ

-- pid 16 and c 16 bits
abbrev pub revision_a : Split
revision_a = record { pid_bits = 16; c_bits = 16 }

-- the largest count that fits
abbrev pub count_limit : Split → ℕ
count_limit k = 2 ^ k.c_bits - 1

-- pid above c, each as far as its bits go
abbrev pub packed : Split → ℕ → ℕ → ℕ
packed k pid c = pid % 2 ^ k.pid_bits * 2 ^ k.c_bits + c % 2 ^ k.c_bits

-- P as a register of two halves
abbrev pub packed_claim : Split → Claim → Halves
packed_claim k p = halves p.seq (packed k p.pid p.c)

-- the first half in the upper 32 bits
abbrev pub word_of : Halves → ℕ
word_of r = r.first * 2 ^ 32 + r.second

abbrev pub claim_word : Split → Claim → ℕ
claim_word k p = word_of (packed_claim k p)
