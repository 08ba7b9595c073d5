-- What was put into a word comes out of it again. Assumes nothing.
use mathlib.Core.Path.{◌≡◌, ◌∙◌, ap}
use Prim.Native.Nat.{ℕ, ◌+◌, ◌*◌, ◌/◌, ◌%◌, ◌^◌}
use native.Mathlib.Nat.{mod-lt, mod-eq_of_lt, div-eq_of_lt, mul-add-div_right, mul-add-mod_self_right, add-zero}
use lib.Pow.{pow_pos}
use Rattle.stepbench.specs.Word.{WordsComeApart}

-- a number of so many bits below another
module _ (bits a b : ℕ) where
  pub above : (a * 2 ^ bits + b % 2 ^ bits) / 2 ^ bits ≡ a
  above = mul-add-div_right (pow_pos bits) a (b % 2 ^ bits) ∙ rw (div-eq_of_lt (mod-lt b (pow_pos bits))) (add-zero a)

  pub below : (a * 2 ^ bits + b % 2 ^ bits) % 2 ^ bits ≡ b % 2 ^ bits
  below = mul-add-mod_self_right a (2 ^ bits) (b % 2 ^ bits) ∙ mod-eq_of_lt (mod-lt b (pow_pos bits))

pub words_come_apart : WordsComeApart
unfolding WordsComeApart
words_come_apart n k len hn hk hlen =
    let high = above 32 (n % 2 ^ 8 * 2 ^ 24 + k % 2 ^ 24) len in
    record {
      refused = ap (λ h. h / 2 ^ 24) high ∙ above 24 (n % 2 ^ 8) k ∙ mod-eq_of_lt hn;
      k_told = ap (λ h. h % 2 ^ 24) high ∙ below 24 (n % 2 ^ 8) k ∙ mod-eq_of_lt hk;
      length_told = below 32 (n % 2 ^ 8 * 2 ^ 24 + k % 2 ^ 24) len ∙ mod-eq_of_lt hlen;
    }
