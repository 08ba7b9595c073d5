-- Words drawn one after the other into a buffer. Assumes nothing.
use mathlib.Core.Path.{◌≡◌, refl, ◌∙◌, sym, ap}
use mathlib.Core.List.{List, [], ◌∷◌, ◌++◌, append_assoc, append-nil}
use Prim.Native.Nat.{ℕ, zero, suc, ◌+◌, ◌-◌, ◌*◌, ◌≤◌}
use native.Mathlib.Numerals.{add-one}
use native.Mathlib.Omega.{arith}
use borrow.Rule.Slice.PartMut.{mid_of, put_mid, mid_len}
use lib.ListN.{get_or, length, take, drop, length-append}
use lib.Seq.{sets, sets-eq, drop-drop}
use Rattle.card.specs.declared.Halves.{Halves}
use Rattle.card.specs.Register.{halves}
use Rattle.card.specs.Word.{revision_a, word_of, claim_word}
use Rattle.bench.specs.declared.Bench.{Bench}
use Rattle.octets.specs.Bytes.{bytes}
use Rattle.octets.proofs.Buffers
use Rattle.octets.proofs.Buffers.{sets-append}
use Rattle.octets.proofs.Bytes.{length-bytes}
use Rattle.picture.specs.Picture.{entry_words, registers, in_bytes, picture_size}

-- a part of the buffer that comes back as a text of k bytes
put_back : (out text : List ℕ) (at k : ℕ) → length text ≡ k → at + k ≤ length out → take at out ++ (text ++ drop k (drop at out)) ≡ sets out at text
put_back out text at k e h =
    rw (drop-drop, ← e)
    (sym (append_assoc (take at out) text (drop (at + length text) out)) ∙ sym (sets-eq text out at (omega arith)))

-- the k bytes of x, stored into such a part
pub part_stored : (out back : List ℕ) (at k x : ℕ) → at + k ≤ length out → back ≡ bytes (length (mid_of at (at + k - at) out)) x
    → put_mid at (at + k - at) out back ≡ sets out at (bytes k x)
part_stored out back at k x h e =
    let d : at + k - at ≡ k = omega arith in
    let q : back ≡ bytes k x = e ∙ ap (λ m. bytes m x) (mid_len at (at + k) out h ∙ d) in
    rw (d, q) (put_back out (bytes k x) at k (length-bytes k x) h)

pub length-in_bytes : (xs : List ℕ) → length (in_bytes xs) ≡ 8 * length xs
unfolding in_bytes
length-in_bytes [] = refl
length-in_bytes (x ∷ xs) = length-append (bytes 8 x) (in_bytes xs) ∙ rw (length-bytes, length-in_bytes xs) (omega arith)

pub in_bytes-append : (xs ys : List ℕ) → in_bytes (xs ++ ys) ≡ in_bytes xs ++ in_bytes ys
unfolding in_bytes
in_bytes-append [] ys = refl
in_bytes-append (x ∷ xs) ys = ap (λ l. bytes 8 x ++ l) (in_bytes-append xs ys) ∙ sym (append_assoc (bytes 8 x) (in_bytes xs) (in_bytes ys))

pub length-entry_words : (l : List Halves) (k : ℕ) → length (entry_words l k) ≡ k
unfolding entry_words
length-entry_words l zero = refl
length-entry_words l (suc k) = length-append (entry_words l k) _ ∙ rw (length-entry_words l k) (omega arith)

-- words drawn, and then more words
pub more : (out : List ℕ) (i j : ℕ) (xs ys : List ℕ) → j ≡ i + 8 * length xs → sets (sets out i (in_bytes xs)) j (in_bytes ys) ≡ sets out i (in_bytes (xs ++ ys))
more out i j xs ys e =
    ap (λ k. sets (sets out i (in_bytes xs)) k (in_bytes ys)) (e ∙ ap (λ k. i + k) (sym (length-in_bytes xs)))
    ∙ sets-append (in_bytes xs) (in_bytes ys) out i ∙ ap (sets out i) (sym (in_bytes-append xs ys))

one_word : (x : ℕ) → in_bytes (x ∷ []) ≡ bytes 8 x
unfolding in_bytes
one_word x = append-nil (bytes 8 x)

-- one entry more
pub entry_more : (out : List ℕ) (i j k : ℕ) (l : List Halves) → j ≡ i + 8 * k
    → sets (sets out i (in_bytes (entry_words l k))) j (bytes 8 (word_of (get_or l (k + 1) (halves 0 0)))) ≡ sets out i (in_bytes (entry_words l (k + 1)))
unfolding entry_words
entry_more out i j k l e =
    let x = word_of (get_or l (k + 1) (halves 0 0)) in
    ap (sets (sets out i (in_bytes (entry_words l k))) j) (sym (one_word x))
    ∙ more out i j (entry_words l k) (x ∷ []) (e ∙ ap (λ m. i + 8 * m) (sym (length-entry_words l k)))
    ∙ rw add-one

-- V, then P, then the entries of A, then those of R
pub all_drawn : (w : Bench) (o o₁ o₂ o₃ o₄ : List ℕ) (x y : ℕ) → x ≡ word_of w.v → y ≡ claim_word revision_a w.p → o₁ ≡ sets o 0 (bytes 8 x)
    → o₂ ≡ sets o₁ 8 (bytes 8 y) → o₃ ≡ sets o₂ 16 (in_bytes (entry_words w.a w.n)) → o₄ ≡ sets o₃ (16 + 8 * w.n) (in_bytes (entry_words w.r w.n))
    → o₄ ≡ sets o 0 (in_bytes (registers w))
all_drawn w o o₁ o₂ o₃ o₄ x y p q e₁ e₂ e₃ e₄ =
    let a = entry_words w.a w.n in
    let r = entry_words w.r w.n in
    let d₁ : o₁ ≡ sets o 0 (in_bytes (x ∷ [])) = e₁ ∙ ap (sets o 0) (sym (one_word x)) in
    let d₂ : o₂ ≡ sets o 0 (in_bytes (x ∷ y ∷ [])) =
    e₂ ∙ ap (sets o₁ 8) (sym (one_word y)) ∙ ap (λ l. sets l 8 (in_bytes (y ∷ []))) d₁ ∙ more o 0 8 (x ∷ []) (y ∷ []) refl
    in
    let d₃ : o₃ ≡ sets o 0 (in_bytes (x ∷ y ∷ a)) = e₃ ∙ ap (λ l. sets l 16 (in_bytes a)) d₂ ∙ more o 0 16 (x ∷ y ∷ []) a refl in
    e₄ ∙ ap (λ l. sets l (16 + 8 * w.n) (in_bytes r)) d₃ ∙ more o 0 (16 + 8 * w.n) (x ∷ y ∷ a) r (omega (arith, length-entry_words w.a w.n))
    ∙ ap (λ z. sets o 0 (in_bytes (z ∷ y ∷ (a ++ r)))) p ∙ ap (λ z. sets o 0 (in_bytes (word_of w.v ∷ z ∷ (a ++ r)))) q

pub size-drawn : (w : Bench) → length (in_bytes (registers w)) ≡ picture_size w
size-drawn w =
    let a = entry_words w.a w.n in
    let r = entry_words w.r w.n in
    length-in_bytes (registers w) ∙ omega (arith, length-append a r, length-entry_words w.a w.n, length-entry_words w.r w.n)

-- where there is room, the words stand in front of the rest
pub in_front : (w : Bench) (out : List ℕ) → picture_size w ≤ length out → sets out 0 (in_bytes (registers w)) ≡ in_bytes (registers w) ++ drop (picture_size w) out
in_front w out h = Buffers.in_front out (in_bytes (registers w)) (picture_size w) (size-drawn w) h
