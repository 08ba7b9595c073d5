-- A station at rest, its tests in the order in which the code makes them. Assumes nothing.
use mathlib.Core.Path.{◌≡◌, refl}
use mathlib.Core.List.{[], ◌∷◌}
use mathlib.Core.Bool.{Bool, true, false, cond, not, ◌&&◌, ◌||◌}
use Prim.Native.Nat.{ℕ, zero, suc, ◌≤◌}
use native.Mathlib.Omega.{arith}
use borrow.Author.Tests.{ltb-false, eq-eqb, ne_eqb, lt-ltb, le-ltb}
use lib.Dec.{eqb, ltb}
use Rattle.rules.specs.Refusal.{refusal, refusal_of}
use Rattle.rules.proofs.Facts.{or_none}
use Rattle.method.specs.declared.Place.TheVariants.{Rest}
use Rattle.method.specs.declared.Station.{Station}
use Rattle.method.specs.declared.Answer.TheVariants.{Idle, Refused}
use Rattle.method.specs.Table.{Access, row2, row5, row}
use Rattle.reach.specs.Step.{count_limit, version_limit, bad_offer, or_refused, step_of}

-- a good offer's kind
pub known : (kind a b : ℕ) → bad_offer kind a b ≡ false → kind ≤ 3
known kind a b e = ltb-false 3 kind (or_none (ltb 3 kind) ((eqb kind 0 || eqb kind 3) && (not (eqb a 0) || not (eqb b 0))) e).0

-- a set or swap is what is neither a read nor none
pub set_or_swap : (kind : ℕ) → kind ≤ 3 → (eqb kind 1 || eqb kind 2) ≡ not (eqb kind 0 || eqb kind 3)
set_or_swap zero h = refl
set_or_swap (suc zero) h = refl
set_or_swap (suc (suc zero)) h = refl
set_or_swap (suc (suc (suc zero))) h = refl
set_or_swap (suc (suc (suc (suc k)))) h = absurd (omega arith)

-- the offer's kind, then 12, then 13
module _ {W Out : Type 0} (on : Access W Out) (w : W) (i : ℕ) (t : Station) (kind a b : ℕ) where
  abbrev pub rest_in_order : Bool → Bool → Bool → Bool → Out
  rest_in_order none reads full late =
      cond none (on.give Idle w)
      (cond reads (row2 on w i) (cond full (on.give (Refused 12) w) (cond late (on.give (Refused 13) w) (row5 on w i t kind a b))))

  in_order : (none reads full late : Bool)
      → or_refused on (refusal_of (refusal 12 (not (reads || none) && full) ∷ refusal 13 (not (reads || none) && late) ∷ [])) w
      (cond none (on.give Idle w) (cond reads (row2 on w i) (row5 on w i t kind a b)))
      ≡ rest_in_order none reads full late
  in_order true true full late = refl
  in_order true false full late = refl
  in_order false true full late = refl
  in_order false false true late = refl
  in_order false false false true = refl
  in_order false false false false = refl

  pub rest_law : bad_offer kind a b ≡ false
      → step_of on Rest w i t kind a b ≡ rest_in_order (eqb kind 3) (eqb kind 0) (eqb t.c count_limit) (ltb version_limit (on.v w i).first)
  unfolding step_of row
  rest_law good =
      rw (good, set_or_swap kind (known kind a b good)) (in_order (eqb kind 3) (eqb kind 0) (eqb t.c count_limit) (ltb version_limit (on.v w i).first))

-- what a move at rest is proved by
pub ruleset at_rest = (rest_law, eq-eqb, ne_eqb, lt-ltb, le-ltb)
