-- Tests that pass are facts, and facts are tests that pass; the same for rules. Assumes nothing.
use mathlib.Core.Path.{◌≡◌, refl}
use mathlib.Core.Logic.{◌⊎◌, inl, inr, ⊎_elim}
use mathlib.Core.Bool.{Bool, true, false, not, ◌&&◌, ◌||◌, true≢false}
use mathlib.Core.List.{List, [], ◌∷◌}
use Prim.Native.Nat.{◌%◌}
use borrow.Author.Tests.{leb-true, le-leb, eqb-true, eqb-false, eq-eqb, ne_eqb, not-true}
use lib.Dec.{eqb}
use Rattle.rules.specs.Test.{Test, same, differ, at_most, even, one_of, Rule, passes, pass, kept, all_kept, Says, Facts, When, Kept, AllKept}

-- by cases on a test
pub either_way : {X : Type 0} (b : Bool) → (b ≡ true → X) → (b ≡ false → X) → X
either_way true f g = f refl
either_way false f g = g refl

pub and_left : (a b : Bool) → (a && b) ≡ true → a ≡ true
and_left true b e = refl
and_left false b e = e

pub and_right : (a b : Bool) → (a && b) ≡ true → b ≡ true
and_right true b e = e
and_right false true e = refl
and_right false false e = e

pub and_both : {a b : Bool} → a ≡ true → b ≡ true → (a && b) ≡ true
and_both {a} {b} p q = rw (p, q)

pub or_none : (a b : Bool) → (a || b) ≡ false → (a ≡ false) × (b ≡ false)
or_none true b e = absurd (true≢false e)
or_none false b e = (refl, e)

or_cases : (a b : Bool) → (a || b) ≡ true → (a ≡ true) ⊎ (b ≡ true)
or_cases true b e = inl refl
or_cases false b e = inr e

or_left : (a b : Bool) → a ≡ true → (a || b) ≡ true
or_left true b e = refl
or_left false true e = refl
or_left false false e = e

or_right : (a b : Bool) → b ≡ true → (a || b) ≡ true
or_right true b e = refl
or_right false b e = e

pub says : (t : Test) → passes t ≡ true → Says t
says (same x y) e = eqb-true x y e
says (differ x y) e = eqb-false x y (not-true (eqb x y) e)
says (at_most x y) e = leb-true x y e
says (even x) e = eqb-true (x % 2) 0 e
says (one_of x y z) e =
    ⊎_elim (λ q. inl (eqb-true x y q)) (λ q. inr (eqb-true x z q)) (or_cases (eqb x y) (eqb x z) e)

pub passing : (t : Test) → Says t → passes t ≡ true
passing (same x y) e = eq-eqb x y e
passing (differ x y) e = rw (ne_eqb x y e)
passing (at_most x y) e = le-leb x y e
passing (even x) e = eq-eqb (x % 2) 0 e
passing (one_of x y z) e =
    ⊎_elim (λ q. or_left (eqb x y) (eqb x z) (eq-eqb x y q)) (λ q. or_right (eqb x y) (eqb x z) (eq-eqb x z q)) e

pub facts : (l : List Test) → pass l ≡ true → Facts l
facts [] e = tt
facts (t ∷ []) e = (says t e, tt)
facts (t ∷ u ∷ l) e = (says t (and_left (passes t) (pass (u ∷ l)) e), facts (u ∷ l) (and_right (passes t) (pass (u ∷ l)) e))

pub passed : (l : List Test) → Facts l → pass l ≡ true
passed [] f = refl
passed (t ∷ []) f = passing t f.0
passed (t ∷ u ∷ l) f = and_both (passing t f.0) (passed (u ∷ l) f.1)

when : (b : Bool) (l : List Test) → (not b || pass l) ≡ true → When b (Facts l)
when true l e = facts l e
when false l e = tt

whenever : (b : Bool) (l : List Test) → When b (Facts l) → (not b || pass l) ≡ true
whenever true l f = passed l f
whenever false l f = refl

pub keeps : (r : Rule) → kept r ≡ true → Kept r
keeps r e = when r.condition r.tests e

pub all_keep : (l : List Rule) → all_kept l ≡ true → AllKept l
all_keep [] e = tt
all_keep (r ∷ []) e = (keeps r e, tt)
all_keep (r ∷ q ∷ l) e = (keeps r (and_left (kept r) (all_kept (q ∷ l)) e), all_keep (q ∷ l) (and_right (kept r) (all_kept (q ∷ l)) e))

pub all_kept_lem : (l : List Rule) → AllKept l → all_kept l ≡ true
all_kept_lem [] f = refl
all_kept_lem (r ∷ []) f = whenever r.condition r.tests f.0
all_kept_lem (r ∷ q ∷ l) f = and_both (whenever r.condition r.tests f.0) (all_kept_lem (q ∷ l) f.1)
