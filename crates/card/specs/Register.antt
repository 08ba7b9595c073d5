-- Document 01, "Registers": the registers and the operations max-write and half-max. Assumes nothing.
use Rattle.std.specs.Prelude.{Bool, cond, ℕ, max, leb}
use Rattle.card.specs.declared.Halves.{Halves}
use Rattle.card.specs.declared.Claim.{Claim}

abbrev pub halves : ℕ → ℕ → Halves
halves f g = record { first = f; second = g }

abbrev pub claim : ℕ → ℕ → ℕ → Claim
claim f i c = record { seq = f; pid = i; c = c }

-- max-write of (f, g): if f is at least the first half, both halves become f and g; otherwise nothing changes. Equal counts as "at least"
abbrev pub at_least : ℕ → ℕ → Bool
at_least f first = leb first f

abbrev pub max_write : Halves → ℕ → ℕ → Halves
max_write r f g = cond (at_least f r.first) (halves f g) r

abbrev pub max_claim : Claim → ℕ → ℕ → ℕ → Claim
max_claim p f i c = cond (at_least f p.seq) (claim f i c) p

-- half-max of f: the first half becomes the larger of itself and f; the second half stays
abbrev pub half_max : Halves → ℕ → Halves
half_max r f = halves (max r.first f) r.second

abbrev pub half_claim : Claim → ℕ → Claim
half_claim p f = claim (max p.seq f) p.pid p.c
