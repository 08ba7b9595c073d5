-- A row that is filled from its front on, and places that are looked at one after the other. Assumes nothing.
use mathlib.Core.Path.{◌≡◌, refl, ◌∙◌, sym, ap, subst}
use mathlib.Core.Bool.{Bool, ◌&&◌}
use mathlib.Core.Logic.{⊎_elim}
use mathlib.Core.List.{List, [], ◌∷◌, map}
use Prim.Native.Nat.{ℕ, zero, suc, ◌+◌, ◌<◌, ◌≤◌}
use native.Mathlib.Omega.{arith}
use native.Mathlib.Nat.{eq-or-lt_of_le}
use native.Mathlib.Numerals.{add-one}
use denote.Param.Members.{Mut}
use lib.ListN.{length, get_or, take}
use lib.Seq.{take-suc, take_all}
use Rattle.std.specs.Array.{IsFromFnResultFrom, IsFromFnResult}
use Rattle.std.specs.Fn.{Called}
use Rattle.std.specs.List.{list_all, range_with_len}
use Rattle.std.proofs.Math.Bool.{and-true}
use Rattle.std.proofs.lemmas.List.Folds.{list_all-append, list_all-map}
use Rattle.std.proofs.lemmas.List.FromFn.{map-range_with_len_more}
use Rattle.probing.specs.Numbers.{is_place, place_at, each, places_to}

each_take : {X : Type 0} (f : ℕ → X) (l : List X) (d : X) (k : ℕ) → k ≤ length l → ((i : ℕ) → i < k → f i ≡ get_or l i d) → each f k ≡ take k l
unfolding each
each_take f [] d zero h g = refl
each_take f (x ∷ l) d zero h g = refl
each_take f l d (suc k) h g =
    rw (each_take f l d k (omega arith) (λ i q. g i (omega arith)), g k (omega arith)) (sym (take-suc l k d h))

-- a list, element by element
pub each_is : {X : Type 0} (f : ℕ → X) (l : List X) (d : X) (k : ℕ) → length l ≡ k → ((i : ℕ) → i < k → f i ≡ get_or l i d) → each f k ≡ l
each_is f l d k e g = each_take f l d k (omega arith) g ∙ take_all k l (omega arith)

-- an array whose elements a closure gave, which calls leave as it was
module _ {F X : Type 0} (g : Mut F (ℕ × Unit {0}) X) (f : F) (of : ℕ → X) (ran : (i : ℕ) (x : X) (q : F) → Called g f (i, tt) x q → (q ≡ f) × (x ≡ of i)) where
  given_from : (ys : List X) (d : X) (n i j : ℕ) → IsFromFnResultFrom g f ys i n → i ≤ j → j < i + n → of j ≡ get_or ys j d
  given_from ys d zero i j h a b = absurd (omega arith)
  given_from ys d (suc n) i j h a b =
      let t = ran i h.1 h.0 h.3 in
      ⊎_elim
      (λ (e : i ≡ j). ap of (sym e) ∙ sym t.1 ∙ sym (h.2.1 d) ∙ ap (λ k. get_or ys k d) e)
      (λ (l : i < j). given_from ys d n (i + 1) j (subst (λ q. IsFromFnResultFrom g q ys (i + 1) n) t.0 h.4) (omega arith) (omega arith))
      (eq-or-lt_of_le a)

  pub each_given : (ys : List X) (d : X) (n : ℕ) → IsFromFnResult g f ys n → ys ≡ each of n
  each_given ys d n r = sym (each_is of ys d n r.long (λ i h. given_from ys d n 0 i r.each (omega arith) (omega arith)))

all_more : (p : ℕ → Bool) (k : ℕ) → list_all p (range_with_len 0 (k + 1)) ≡ (list_all p (range_with_len 0 k) && p k)
all_more p k =
    sym (list_all-map (λ b. b) p (range_with_len 0 (k + 1))) ∙ ap (list_all (λ b. b)) (map-range_with_len_more p 0 k k (omega arith))
    ∙ list_all-append (λ b. b) (map p (range_with_len 0 k)) (p k ∷ []) ∙ (λ i. list_all-map (λ b. b) p (range_with_len 0 k) i && and-true (p k) i)

-- every station's place is looked at
pub places_all : (xs : List ℕ) (k : ℕ) → list_all (λ i. is_place (get_or xs (place_at i) 0)) (range_with_len 0 k) ≡ places_to xs k
unfolding places_to
places_all xs zero = refl
places_all xs (suc k) =
    let p : ℕ → Bool = λ i. is_place (get_or xs (place_at i) 0) in
    ap (λ n. list_all p (range_with_len 0 n)) (sym (add-one k)) ∙ all_more p k ∙ ap (λ b. b && p k) (places_all xs k)
