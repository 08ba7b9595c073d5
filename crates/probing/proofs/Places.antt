-- A place from its number: as the definition has it. Assumes nothing.
use mathlib.Core.Path.{◌≡◌, refl, ◌∙◌, sym, ap}
use mathlib.Core.Bool.{false}
use Prim.Native.Nat.{ℕ}
use borrow.Author.Tests.{eq-eqb, ne_eqb}
use lib.Dec.{eqb}
use Rattle.std.specs.Prelude.{Result, Ok, Err, is_ok}
use Rattle.std.specs.Result.{result_unwrap_or}
use Rattle.method.specs.declared.NoPlace.{NoPlace}
use Rattle.method.specs.declared.Place.{Place}
use Rattle.method.specs.declared.Place.TheVariants.{Rest, At11, At12, At13, At14, At15, At16, At18, At19, At20}
use Rattle.method.specs.Record.{num, Names}
use Rattle.probing.specs.Numbers.{place_of, is_place}

pub place_back : (p : Place) → place_of (num p) ≡ p
unfolding place_of
place_back Rest = refl
place_back At11 = refl
place_back At12 = refl
place_back At13 = refl
place_back At14 = refl
place_back At15 = refl
place_back At16 = refl
place_back At18 = refl
place_back At19 = refl
place_back At20 = refl

module _ (x : ℕ) (h : (p : Place) → num p ≡ x → ⊥) where
  no : (p : Place) → eqb x (num p) ≡ false
  no p = ne_eqb x (num p) (λ e. h p (sym e))

  -- a number that is no place's
  at_rest : place_of x ≡ Rest
  unfolding place_of
  at_rest = rw (no At11, no At12, no At13, no At14, no At15, no At16, no At18, no At19, no At20)

pub named : (x : ℕ) (r : Result Place NoPlace) → Names x r → result_unwrap_or r Rest ≡ place_of x
named x (Ok p) n = sym (place_back p) ∙ ap place_of n
named x (Err e) n = sym (at_rest x n)

pub names_one : (x : ℕ) (r : Result Place NoPlace) → Names x r → is_ok r ≡ is_place x
names_one x (Ok p) n = sym (eq-eqb x (num (place_of x)) (sym n ∙ ap num (named x (Ok p) n)))
names_one x (Err e) n = rw (at_rest x n) (sym (no x n Rest))
