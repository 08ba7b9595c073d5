-- Numbers and bytes written one after the other. Assumes nothing.
use mathlib.Core.Path.{◌≡◌, refl, ◌∙◌, sym, ap}
use mathlib.Core.List.{List, [], ◌∷◌, ◌++◌, append_assoc, append-nil}
use Prim.Native.Nat.{ℕ, ◌+◌, ◌<◌}
use native.Mathlib.Numerals.{add-one}
use lib.ListN.{length, get_or, take}
use lib.Seq.{take-suc}
use Rattle.script.specs.declared.Page.{Page}
use Rattle.script.specs.Quote.{quote}
use Rattle.script.specs.Decimal.{decimal}
use Rattle.script.specs.Page.{Writes}
use Rattle.script.proofs.Pages.{then}
use Rattle.probing.specs.Numbers.{rows}
use Rattle.probing.specs.Text.{spaced, hexes}

spaced-append : (xs ys : List ℕ) → spaced (xs ++ ys) ≡ spaced xs ++ spaced ys
unfolding spaced
spaced-append [] ys = refl
spaced-append (x ∷ xs) ys =
    ap (λ l. quote " " ++ decimal x ++ l) (spaced-append xs ys) ∙ sym (append_assoc (quote " " ++ decimal x) (spaced xs) (spaced ys))

one_spaced : (x : ℕ) → spaced (x ∷ []) ≡ quote " " ++ decimal x
unfolding spaced
one_spaced x = append-nil (quote " " ++ decimal x)

hexes-append : (xs ys : List ℕ) → hexes (xs ++ ys) ≡ hexes xs ++ hexes ys
unfolding hexes
hexes-append [] ys = refl
hexes-append (x ∷ xs) ys = ap (λ l. hexes (x ∷ []) ++ l) (hexes-append xs ys)

module _ {p q r : Page} where
  -- numbers, and then more
  pub then_numbers : (xs ys : List ℕ) → Writes p q (spaced xs) → Writes q r (spaced ys) → Writes p r (spaced (xs ++ ys))
  then_numbers xs ys v w = rw (spaced-append xs ys) (then v w)

  -- a number more
  pub number_more : (xs : List ℕ) (m : ℕ) → m < length xs → Writes p q (spaced (take m xs)) → Writes q r (quote " " ++ decimal (get_or xs m 0))
      → Writes p r (spaced (take (m + 1) xs))
  number_more xs m h v w = rw (add-one, take-suc xs m 0 h) (then_numbers (take m xs) (get_or xs m 0 ∷ []) v (rw one_spaced w))

  -- a row more
  pub row_more : (row : ℕ → List ℕ) (m : ℕ) → Writes p q (spaced (rows row m)) → Writes q r (spaced (row m)) → Writes p r (spaced (rows row (m + 1)))
  unfolding rows
  row_more row m v w = rw add-one (then_numbers (rows row m) (row m) v w)

  -- a byte more
  pub byte_more : (bs : List ℕ) (m : ℕ) → m < length bs → Writes p q (hexes (take m bs)) → Writes q r (hexes (get_or bs m 0 ∷ []))
      → Writes p r (hexes (take (m + 1) bs))
  byte_more bs m h v w = rw (add-one, take-suc bs m 0 h, hexes-append (take m bs) (get_or bs m 0 ∷ [])) (then v w)
