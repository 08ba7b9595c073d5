-- Little-endian bytes at every width: their number, and a byte more of them in a buffer. Assumes nothing.
use mathlib.Core.Path.{◌≡◌, refl, ◌∙◌, sym, ap}
use mathlib.Core.List.{List, [], ◌∷◌, ◌++◌, append_assoc, append-nil}
use Prim.Native.Nat.{ℕ, zero, suc, ◌+◌, ◌-◌, ◌/◌, ◌%◌, ◌<◌, ◌≤◌}
use native.Mathlib.Omega.{arith}
use native.Mathlib.Numerals.{add-one}
use lib.ListN.{length, set, take}
use lib.Seq.{take-suc-set, take_all}
use Rattle.octets.specs.Bytes.{bytes}

pub length-bytes : (k x : ℕ) → length (bytes k x) ≡ k
unfolding bytes
length-bytes zero x = refl
length-bytes (suc k) x = ap suc (length-bytes k (x / 256))

-- the first i places of a buffer, and the bytes that are still to come
abbrev pub filled : ℕ → List ℕ → ℕ → ℕ → List ℕ
filled k out i y = take i out ++ bytes (k - i) y

module _ (k : ℕ) (out : List ℕ) (i y : ℕ) (e : length out ≡ k) where
  pub one_more : i < k → filled k out i y ≡ filled k (set out i (y % 256)) (i + 1) (y / 256)
  unfolding bytes
  one_more h =
      let d : k - i ≡ suc (k - (i + 1)) = omega arith in
      ap (λ m. take i out ++ bytes m y) d
      ∙ sym (append_assoc (take i out) (y % 256 ∷ []) (bytes (k - (i + 1)) (y / 256)))
      ∙ ap (λ l. l ++ bytes (k - (i + 1)) (y / 256)) (sym (take-suc-set out i (y % 256) (omega arith)))
      ∙ ap (λ m. take m (set out i (y % 256)) ++ bytes (k - (i + 1)) (y / 256)) (sym (add-one i))

  pub all_there : k ≤ i → filled k out i y ≡ out
  unfolding bytes
  all_there h =
      let d : k - i ≡ 0 = omega arith in
      rw (d, take_all i out (omega arith)) (append-nil out)
