-- Writers one after the other on one page: their texts join. Assumes nothing.
use mathlib.Core.Path.{refl, ◌∙◌}
use mathlib.Core.List.{List, [], ◌∷◌, ◌++◌}
use Prim.Native.Nat.{ℕ, ◌+◌, ◌<◌, ◌≤◌}
use lib.ListN.{length, get_or, take}
use Rattle.script.specs.declared.Page.{Page}
use Rattle.script.specs.Wrote.{last_place}
use Rattle.script.specs.Page.{Writes}
use Rattle.script.proofs.Writes.{still, and_then, one_more}

-- nothing written
pub blank : (p : Page) → length p.out.now ≤ last_place → Writes p p []
blank p h = record { same = refl; wrote = still p.out.now p.at h p.in_place }

-- one text, and then another
pub then : {p q r : Page} {xs ys : List ℕ} → Writes p q xs → Writes q r ys → Writes p r (xs ++ ys)
then v w = record { same = w.same ∙ v.same; wrote = and_then v.wrote w.wrote }

-- a byte more of a text
pub byte_more : {p q r : Page} (text : List ℕ) (n : ℕ) → n < length text
    → Writes p q (take n text) → Writes q r (get_or text n 0 ∷ []) → Writes p r (take (n + 1) text)
byte_more text n h v w = record { same = w.same ∙ v.same; wrote = one_more text n h v.wrote w.wrote }
