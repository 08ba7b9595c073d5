-- The promises of the card, over any split of P's second half. Assumes nothing.
use mathlib.Core.Path.{◌≡◌, refl, ◌∙◌}
use mathlib.Core.Bool.{Bool, true, false, cond}
use Prim.Native.Nat.{ℕ, ◌+◌, ◌^◌, ◌/◌, ◌%◌, ◌<◌}
use native.Mathlib.Nat.{mod-lt, mod-eq_of_lt, div-eq_of_lt, mul-add-div_right, mul-add-mod_self_right, add-zero, suc-mul, mul-le-mul_right}
use native.Mathlib.Omega.{arith}
use lib.Pow.{pow_pos, pow-add}
use Rattle.card.specs.declared.Claim.{Claim}
use Rattle.card.specs.Register.{halves, claim, at_least}
use Rattle.card.specs.Word.{Split, packed, packed_claim}
use Rattle.card.specs.Promise.{Packs, TwoHalves, Card}

module _ (k : Split) (pid c : ℕ) where
  low : c % 2 ^ k.c_bits < 2 ^ k.c_bits
  low = mod-lt c (pow_pos k.c_bits)

  high : packed k pid c / 2 ^ k.c_bits ≡ pid % 2 ^ k.pid_bits
  high =
      mul-add-div_right (pow_pos k.c_bits) (pid % 2 ^ k.pid_bits) (c % 2 ^ k.c_bits)
      ∙ rw (div-eq_of_lt low) (add-zero (pid % 2 ^ k.pid_bits))

  within : packed k pid c < 2 ^ (k.pid_bits + k.c_bits)
  within =
      let x = pid % 2 ^ k.pid_bits in
      let m = 2 ^ k.c_bits in
      rw (pow-add 2 k.pid_bits k.c_bits)
      (omega (arith, low, suc-mul x m, mul-le-mul_right m (mod-lt pid (pow_pos k.pid_bits))))

  packs : Packs k pid c
  packs =
      record {
        station = λ h. high ∙ mod-eq_of_lt h;
        count = λ h. mul-add-mod_self_right (pid % 2 ^ k.pid_bits) (2 ^ k.c_bits) (c % 2 ^ k.c_bits) ∙ mod-eq_of_lt low ∙ mod-eq_of_lt h;
        fits = within;
      }

two_halves_lem : (k : Split) (p : Claim) (f i c : ℕ) → TwoHalves k p f i c
two_halves_lem k p f i c = record { max_writes = go (at_least f p.seq); half_maxes = refl }
  where
    go : (b : Bool) → packed_claim k (cond b (claim f i c) p) ≡ cond b (halves f (packed k i c)) (packed_claim k p)
    go true = refl
    go false = refl

pub card : Card
card = record { r9 = record { equal = refl; smaller = refl; same = refl; larger = refl }; packs = packs; two_halves = two_halves_lem }
