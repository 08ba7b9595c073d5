-- The trailer's bytes and its numbers: each is made of the other. Assumes nothing.
use mathlib.Core.Path.{◌≡◌, ◌∙◌, sym, ap}
use mathlib.Core.List.{List, ◌++◌, append_assoc}
use Prim.Native.Nat.{ℕ, ◌+◌, ◌^◌, ◌<◌, ◌≤◌}
use native.Mathlib.Omega.{arith}
use lib.ListN.{length, take, drop, length-append, length-take, length-drop}
use lib.Seq.{take_at, take-add, take_all, drop-append-add}
use Rattle.octets.specs.Bytes.{bytes, spelled, AllBytes}
use Rattle.octets.proofs.Bytes.{length-bytes}
use Rattle.octets.proofs.Spelled.{inverse, bytes_drop, bytes_take}
use Rattle.runfile.specs.declared.Trailer.{Trailer}
use Rattle.runfile.specs.Layout.{part, field, trailer_of, trailer_bytes}

pub length-trailer : (z : Trailer) → length (trailer_bytes z) ≡ 16
unfolding trailer_bytes
length-trailer z = simp (length-append, length-bytes)

pub length_part : (s : List ℕ) (a k : ℕ) → a + k ≤ length s → length (part s a k) ≡ k
length_part s a k h = simp (length-take, length-drop) (omega arith)

pub bytes_part : (s : List ℕ) (a k : ℕ) → AllBytes s → AllBytes (part s a k)
bytes_part s a k h = bytes_take k (drop a s) (bytes_drop a s h)

-- a field in front of others, and a field behind one
module _ (k x : ℕ) (rest : List ℕ) where
  pub at_front : x < 256 ^ k → field (bytes k x ++ rest) 0 k ≡ x
  at_front h = ap spelled (take_at (bytes k x) rest k (length-bytes k x)) ∙ inverse.spells_written k x h

  pub behind : (a j : ℕ) → part (bytes k x ++ rest) (k + a) j ≡ part rest a j
  behind a j =
      ap (λ i. take j (drop (i + a) (bytes k x ++ rest))) (sym (length-bytes k x))
      ∙ ap (take j) (drop-append-add (bytes k x) rest a)

-- the numbers fit their fields
pub record Narrow (z : Trailer) : Type 0 where
  pub x : z.x < 256 ^ 4
  pub n : z.n < 256 ^ 1
  pub form : z.form < 256 ^ 1
  pub q : z.q < 256 ^ 2
  pub first : z.first < 256 ^ 4
  pub second : z.second < 256 ^ 4

-- what the trailer's bytes tell is the trailer
pub told : (z : Trailer) → Narrow z → trailer_of (trailer_bytes z) ≡ z
unfolding trailer_bytes
told z f =
    let r6 = bytes 4 z.second in
    let r5 = bytes 4 z.first ++ r6 in
    let r4 = bytes 2 z.q ++ r5 in
    let r3 = bytes 1 z.form ++ r4 in
    let r2 = bytes 1 z.n ++ r3 in
    let r1 = bytes 4 z.x ++ r2 in
    let p2 : (a j : ℕ) → part r1 (4 + a) j ≡ part r2 a j = behind 4 z.x r2 in
    let p3 : (a j : ℕ) → part r2 (1 + a) j ≡ part r3 a j = behind 1 z.n r3 in
    let p4 : (a j : ℕ) → part r3 (1 + a) j ≡ part r4 a j = behind 1 z.form r4 in
    let p5 : (a j : ℕ) → part r4 (2 + a) j ≡ part r5 a j = behind 2 z.q r5 in
    let p6 : (a j : ℕ) → part r5 (4 + a) j ≡ part r6 a j = behind 4 z.first r6 in
    let e1 : field r1 0 4 ≡ z.x = at_front 4 z.x r2 f.x in
    let e2 : field r1 4 1 ≡ z.n = ap spelled (p2 0 1) ∙ at_front 1 z.n r3 f.n in
    let e3 : field r1 5 1 ≡ z.form = ap spelled (p2 1 1 ∙ p3 0 1) ∙ at_front 1 z.form r4 f.form in
    let e4 : field r1 6 2 ≡ z.q = ap spelled (p2 2 2 ∙ p3 1 2 ∙ p4 0 2) ∙ at_front 2 z.q r5 f.q in
    let e5 : field r1 8 4 ≡ z.first = ap spelled (p2 4 4 ∙ p3 3 4 ∙ p4 2 4 ∙ p5 0 4) ∙ at_front 4 z.first r6 f.first in
    let l6 : length r6 ≤ 4 = omega (arith, length-bytes 4 z.second) in
    let e6 : field r1 12 4 ≡ z.second =
    ap spelled (p2 8 4 ∙ p3 7 4 ∙ p4 6 4 ∙ p5 4 4 ∙ p6 0 4 ∙ take_all 4 r6 l6) ∙ inverse.spells_written 4 z.second f.second in
    simp append_assoc (simp (e1, e2, e3, e4, e5, e6))

-- a field of bytes, read and written again
pub again : (s : List ℕ) (a k : ℕ) → AllBytes s → a + k ≤ length s → bytes k (field s a k) ≡ part s a k
again s a k h l =
    ap (λ j. bytes j (field s a k)) (sym (length_part s a k l)) ∙ inverse.writes_spelled (part s a k) (bytes_part s a k h)

-- sixteen bytes are the bytes of the trailer that they tell
pub told_again : (s : List ℕ) → AllBytes s → length s ≡ 16 → trailer_bytes (trailer_of s) ≡ s
unfolding trailer_bytes
told_again s h l =
    simp (
      again s 0 4 h (omega arith),
      again s 4 1 h (omega arith),
      again s 5 1 h (omega arith),
      again s 6 2 h (omega arith),
      again s 8 4 h (omega arith),
      again s 12 4 h (omega arith),
    )
    (rw (← take-add 4 1 s, ← take-add 5 1 s, ← take-add 6 2 s, ← take-add 8 4 s, ← take-add 12 4 s) (take_all 16 s (omega arith)))
