-- The number that bytes spell: its two laws over the width, and reading from the right. Assumes nothing.
use mathlib.Core.Path.{◌≡◌, refl, ◌∙◌, sym, ap}
use mathlib.Core.List.{List, [], ◌∷◌, ◌++◌, append_assoc, append-nil}
use Prim.Native.Nat.{ℕ, zero, suc, ◌+◌, ◌*◌, ◌/◌, ◌%◌, ◌^◌, ◌<◌, ◌≤◌}
use native.Mathlib.Omega.{arith}
use native.Mathlib.Nat.{div-add-mod, mod-eq_of_lt, div-lt_iff_lt-mul, add-mul-mod_self_left, pow-suc, pow-le-pow_right, lt_of_lt_of_le}
use lib.ListN.{length, take, drop}
use lib.Seq.{get_or-drop, drop-length, drop_at}
use Rattle.octets.specs.Bytes.{bytes, spelled, AllBytes}
use Rattle.octets.specs.Promise.{Inverse}

spells_written_lem : (k x : ℕ) → x < 256 ^ k → spelled (bytes k x) ≡ x
unfolding spelled bytes
spells_written_lem zero x h = omega arith
spells_written_lem (suc k) x h =
    let e = spells_written_lem k (x / 256) ((div-lt_iff_lt-mul (omega arith)).1 (rw pow-suc at h)) in
    rw e (omega (arith, div-add-mod x 256))

writes_spelled_lem : (s : List ℕ) → AllBytes s → bytes (length s) (spelled s) ≡ s
unfolding spelled bytes
writes_spelled_lem [] h = refl
writes_spelled_lem (b ∷ s) h =
    let lo : (b + 256 * spelled s) % 256 ≡ b = add-mul-mod_self_left b 256 (spelled s) ∙ mod-eq_of_lt (h 0) in
    let hi : (b + 256 * spelled s) / 256 ≡ spelled s = omega (arith, h 0) in
    rw (lo, hi, writes_spelled_lem s (λ i. h (suc i)))

fits : (s : List ℕ) → AllBytes s → spelled s < 256 ^ length s
unfolding spelled
fits [] h = omega arith
fits (b ∷ s) h = rw pow-suc (omega (arith, h 0, fits s (λ i. h (suc i))))

pub inverse : Inverse
inverse = record { spells_written = spells_written_lem; writes_spelled = writes_spelled_lem; fits = fits }

pub bytes_drop : (k : ℕ) (s : List ℕ) → AllBytes s → AllBytes (drop k s)
bytes_drop k s h i = rw get_or-drop (h (k + i))

pub bytes_take : (k : ℕ) (s : List ℕ) → AllBytes s → AllBytes (take k s)
bytes_take zero s h i = omega arith
bytes_take (suc k) [] h i = h i
bytes_take (suc k) (b ∷ s) h zero = h zero
bytes_take (suc k) (b ∷ s) h (suc i) = bytes_take k s (λ j. h (suc j)) i

-- a number of at most k bytes fits k bytes
pub fits_in : (k : ℕ) (s : List ℕ) → AllBytes s → length s ≤ k → spelled s < 256 ^ k
fits_in k s h l = lt_of_lt_of_le (fits s h) (pow-le-pow_right {n = 256} (omega arith) {j = k} l)

-- read from the right: the bytes left are the first of l, and x is what the bytes behind them spell
pub record Behind (l left : List ℕ) (x : ℕ) : Type 0 where
  pub whole : left ++ drop (length left) l ≡ l
  pub sum : x ≡ spelled (drop (length left) l)

-- all are left, or the last of those left is read
pub none_behind : (l : List ℕ) → Behind l l 0
unfolding spelled
none_behind l = record { whole = rw drop-length (append-nil l); sum = rw drop-length refl }

pub one_behind : (l left : List ℕ) (b x : ℕ) → Behind l (left ++ b ∷ []) x → Behind l left (b + 256 * x)
unfolding spelled
one_behind l left b x h =
    let back = drop (length (left ++ b ∷ [])) l in
    let w : left ++ b ∷ back ≡ l = sym (append_assoc left (b ∷ []) back) ∙ h.whole in
    let d : drop (length left) l ≡ b ∷ back = ap (drop (length left)) (sym w) ∙ drop_at left (b ∷ back) (length left) refl in
    record { whole = rw d w; sum = rw (d, h.sum) refl }
