-- Writers one after the other: their texts join, whatever the buffer's length. Assumes nothing.
use mathlib.Core.Path.{◌≡◌, refl, ◌∙◌, sym, ap}
use mathlib.Core.List.{List, [], ◌∷◌, ◌++◌}
use Prim.Native.Nat.{ℕ, suc, ◌+◌, ◌<◌, ◌≤◌}
use native.Mathlib.Omega.{arith}
use native.Mathlib.Numerals.{add-one}
use borrow.Author.Tests.{leb-true, leb-false}
use lib.Dec.{leb}
use lib.ListN.{length, get_or, take, drop, length-append}
use lib.Seq.{sets, length-sets, set_out, take-suc}
use Rattle.rules.proofs.Facts.{either_way}
use Rattle.octets.proofs.Buffers.{sets-append}
use Rattle.octets.proofs.Buffers.{in_front as at_front}
use Rattle.script.specs.Wrote.{last_place, cut, Wrote}
use Rattle.script.specs.Promise.{WritersSettled}

-- past the end nothing is written
sets_out : (vs l : List ℕ) (i : ℕ) → length l ≤ i → sets l i vs ≡ l
sets_out [] l i h = refl
sets_out (v ∷ vs) l i h = ap (λ m. sets m (suc i) vs) (set_out l i v h) ∙ sets_out vs l (suc i) (omega arith)

-- a place that is cut is past the end, as the place itself is
sets_cut : (vs l : List ℕ) (k : ℕ) → length l ≤ last_place → sets l (cut k) vs ≡ sets l k vs
sets_cut vs l k h =
    either_way (leb k last_place)
    (λ t. let g = leb-true k last_place t in let e : cut k ≡ k = omega arith in ap (λ i. sets l i vs) e)
    (λ f. let g = leb-false k last_place f in sets_out vs l (cut k) (omega arith) ∙ sym (sets_out vs l k (omega arith)))

pub writers_are_settled : WritersSettled
unfolding WritersSettled
writers_are_settled out a b at i j text v w = (v.stands ∙ sym w.stands, v.after ∙ sym w.after)

-- nothing written
pub still : (l : List ℕ) (i : ℕ) → length l ≤ last_place → i ≤ last_place → Wrote l l i i []
still l i h g = record { stands = refl; after = omega arith; lent = h }

module _ {a b : List ℕ} {i j : ℕ} {xs : List ℕ} (v : Wrote a b i j xs) where
  pub same_length : length b ≡ length a
  same_length = ap length v.stands ∙ length-sets a i xs

  -- one text, and then another
  pub and_then : {c : List ℕ} {k : ℕ} {ys : List ℕ} → Wrote b c j k ys → Wrote a c i k (xs ++ ys)
  and_then {c} {k} {ys} w =
      let h : length (sets a i xs) ≤ last_place = omega (arith, length-sets a i xs, v.lent) in
      record {
        stands = w.stands ∙ ap (λ l. sets l j ys) v.stands ∙ ap (λ n. sets (sets a i xs) n ys) v.after
            ∙ sets_cut ys (sets a i xs) (i + length xs) h ∙ sets-append xs ys a i;
        after = omega (arith, v.after, w.after, length-append xs ys);
        lent = v.lent;
      }

-- a byte more of a text
pub one_more : {a b c : List ℕ} {i j k : ℕ} (text : List ℕ) (n : ℕ) → n < length text
    → Wrote a b i j (take n text) → Wrote b c j k (get_or text n 0 ∷ []) → Wrote a c i k (take (n + 1) text)
one_more text n h v w = rw (add-one, take-suc text n 0 h) (and_then v w)

-- from the start of a buffer
module _ {a b : List ℕ} {j : ℕ} {xs : List ℕ} (v : Wrote a b 0 j xs) where
  -- the next place is the text's length: also where there is no room, so a text is measured on any buffer
  pub size : length xs ≤ last_place → j ≡ length xs
  size h = omega (arith, v.after)

  -- where there is room, the text stands in front of the rest
  pub in_front : length xs ≤ length a → b ≡ xs ++ drop (length xs) a
  in_front h = v.stands ∙ at_front a xs (length xs) refl h
