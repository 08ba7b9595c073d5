-- Words as bytes: whether they are the same, and the number that they spell. Assumes nothing.
use mathlib.Core.Path.{◌≡◌, refl, ◌∙◌, sym, ap}
use mathlib.Core.Bool.{false, ◌&&◌}
use mathlib.Core.List.{List, [], ◌∷◌, ◌++◌}
use Prim.Native.Nat.{ℕ, suc, ◌+◌, ◌-◌, ◌<◌, ◌≤◌}
use native.Mathlib.Omega.{arith}
use native.Mathlib.Numerals.{add-one}
use lib.Dec.{eqb, ltb}
use lib.Pointwise.{pointwise}
use lib.ListN.{length, get_or, take, drop, length-drop, length-take}
use lib.Seq.{take-suc, get_or-drop}
use Rattle.std.specs.Prelude.{Option, Some, None}
use Rattle.rules.proofs.Facts.{either_way}
use Rattle.script.specs.Number.{no_number, is_digit, digit_more, as_number, number_more}
use Rattle.drafting.specs.Draft.{number_from, same_bytes}
use Rattle.drafting.specs.Scan.{empty}

pub pointwise_same : (xs ys : List ℕ) → pointwise eqb xs ys ≡ same_bytes xs ys
unfolding same_bytes
pointwise_same [] [] = refl
pointwise_same [] (y ∷ ys) = refl
pointwise_same (x ∷ xs) [] = refl
pointwise_same (x ∷ xs) (y ∷ ys) = ap (λ b. eqb x y && b) (pointwise_same xs ys)

pub number_both : (c : ℕ) (xs ys : List ℕ) → number_from c (xs ++ ys) ≡ number_from (number_from c xs) ys
unfolding number_from
number_both c [] ys = refl
number_both c (x ∷ xs) ys = number_both (digit_more c x) xs ys

-- a digit more of a number that the code keeps
gone : (n b : ℕ) → ltb n no_number ≡ false → digit_more n b ≡ no_number
gone n b f = either_way (is_digit b) (λ t. rw (t, f) refl) (λ g. rw g refl)

kept_more : (n b : ℕ) → number_more (as_number n) b ≡ as_number (digit_more n b)
kept_more n b =
    either_way (ltb n no_number)
    (λ t. let e : as_number n ≡ Some n = rw t refl in ap (λ o. number_more o b) e)
    (λ f.
    let e : as_number n ≡ None = rw f refl in
    ap (λ o. number_more o b) e ∙ ap as_number (gone no_number b refl ∙ sym (gone n b f)))

pub number_on : (word : List ℕ) (i : ℕ) {o : Option ℕ} → i < length word → o ≡ as_number (number_from 0 (take i word))
    → number_more o (get_or word i 0) ≡ as_number (number_from 0 (take (i + 1) word))
unfolding number_from
number_on word i h e =
    rw (e, add-one, take-suc word i 0 h, number_both 0 (take i word) (get_or word i 0 ∷ []))
    (kept_more (number_from 0 (take i word)) (get_or word i 0))

-- a word that has begun is there, and a byte more of it
there : (l : List ℕ) → 0 < length l → empty l ≡ false
unfolding empty
there [] h = absurd (omega arith)
there (b ∷ l) h = refl

pub some_word : (text : List ℕ) (start i : ℕ) → start < i → i ≤ length text → empty (take (i - start) (drop start text)) ≡ false
some_word text start i h g = there (take (i - start) (drop start text)) (simp (length-take, length-drop) (omega arith))

pub word_more : (text : List ℕ) (start i : ℕ) → start ≤ i → i < length text
    → take (i + 1 - start) (drop start text) ≡ take (i - start) (drop start text) ++ (get_or text i 0 ∷ [])
word_more text start i h g =
    let k : i + 1 - start ≡ suc (i - start) = omega arith in
    let j : start + (i - start) ≡ i = omega arith in
    ap (λ m. take m (drop start text)) k
    ∙ take-suc (drop start text) (i - start) 0 (simp length-drop (omega arith))
    ∙ ap (λ b. take (i - start) (drop start text) ++ (b ∷ [])) (get_or-drop start text (i - start) 0 ∙ ap (λ m. get_or text m 0) j)

pub word_new : (text : List ℕ) (i : ℕ) → i < length text → take (i + 1 - i) (drop i text) ≡ get_or text i 0 ∷ []
word_new text i h =
    let z : i - i ≡ 0 = omega arith in
    word_more text i i (omega arith) h ∙ rw z refl
