-- First turns, points and last turns of the calls of a run, and the list that goes by points. Assumes nothing.
use mathlib.Core.Path.{◌≡◌, refl, ◌∙◌, ap}
use mathlib.Core.Bool.{cond}
use mathlib.Core.List.{List, [], ◌∷◌, ◌++◌}
use Prim.Native.Nat.{ℕ, ◌≤◌}
use native.Mathlib.Omega.{arith}
use native.Mathlib.Decide.{dec_le}
use borrow.Author.Tests.{eq-eqb, ne_eqb}
use lib.Dec.{eqb}
use Rattle.method.specs.Update.{upd}
use Rattle.method.proofs.Upd.{upd_same, upd_other, upd_all}
use Rattle.order.specs.Accepted.{times}
use Rattle.order.specs.Demand.{Pairs}
use Rattle.order.proofs.Lists.{times_more, pairs_more}

-- till turn `now`
pub record Dated (now : ℕ) (first point last : ℕ → ℕ) (list : List ℕ) : Type 0 where
  pub firsts : (c : ℕ) → first c ≤ now
  pub points : (c : ℕ) → point c ≤ now
  pub after : (c : ℕ) → 1 ≤ point c → (1 ≤ first c) × (first c ≤ point c)
  pub before : (c : ℕ) → 1 ≤ last c → (1 ≤ point c) × (point c ≤ last c)
  pub listed : (c : ℕ) → times c list ≡ cond (eqb (point c) 0) 0 1
  pub rising : Pairs (λ c d. point c ≤ point d) list

module _ {now : ℕ} {first point last : ℕ → ℕ} {list : List ℕ} (k : Dated now first point last list) where
  -- a listed call has a point, and one that has a point is listed
  pub unlisted : (c : ℕ) → point c ≡ 0 → times c list ≡ 0
  unlisted c e = k.listed c ∙ rw (eq-eqb (point c) 0 e)

  pub has_point : (c : ℕ) → 1 ≤ times c list → 1 ≤ point c
  has_point c l = elim (dec_le 1 (point c)) [
    | yes p ↦ p
    | no p ↦ absurd (let z = unlisted c (omega arith) in omega arith)
  ]

  pub is_listed : (c : ℕ) → 1 ≤ point c → times c list ≡ 1
  is_listed c p = k.listed c ∙ rw (ne_eqb (point c) 0 (λ e. omega arith))

  -- a call that has not begun has no point, and one that has none has not ended
  pub no_point : (c : ℕ) → first c ≡ 0 → point c ≡ 0
  no_point c e = elim (dec_le 1 (point c)) [
    | yes h ↦ absurd (let a = k.after c h in omega arith)
    | no h ↦ omega arith
  ]

  pub no_end : (c : ℕ) → point c ≡ 0 → last c ≡ 0
  no_end c e = elim (dec_le 1 (last c)) [
    | yes h ↦ absurd (let a = k.before c h in omega arith)
    | no h ↦ omega arith
  ]

  pub later : (next : ℕ) → now ≤ next → Dated next first point last list
  later next h =
      record {
        firsts = λ c. let a = k.firsts c in omega arith;
        points = λ c. let a = k.points c in omega arith;
        after = k.after;
        before = k.before;
        listed = k.listed;
        rising = k.rising;
      }

  -- call c begins now, has its point now, or ends now
  module _ (c : ℕ) where
    pub begins_now : first c ≡ 0 → Dated now (upd first c now) point last list
    begins_now e =
        let p = no_point c e in
        record {
          firsts = upd_all first c now (λ d y. y ≤ now) (omega arith) (λ d ne. k.firsts d);
          points = k.points;
          after = upd_all first c now (λ d y. 1 ≤ point d → (1 ≤ y) × (y ≤ point d)) (λ h. absurd (omega arith)) (λ d ne. k.after d);
          before = k.before;
          listed = k.listed;
          rising = k.rising;
        }

    pub points_now : 1 ≤ now → 1 ≤ first c → point c ≡ 0 → Dated now first (upd point c now) last (list ++ (c ∷ []))
    points_now t begun none =
        let not_in = unlisted c none in
        let going = no_end c none in
        let other : (d : ℕ) → 1 ≤ times d list → d ≡ c → ⊥ = λ d h e. let n = ap (λ c. times c list) e ∙ not_in in omega arith in
        let late : (d : ℕ) → upd point c now d ≤ now = upd_all point c now (λ d y. y ≤ now) (omega arith) (λ d ne. k.points d) in
        record {
          firsts = k.firsts;
          points = late;
          after = upd_all point c now (λ d y. 1 ≤ y → (1 ≤ first d) × (first d ≤ y)) (λ h. (begun, k.firsts c)) (λ d ne. k.after d);
          before = upd_all point c now (λ d y. 1 ≤ last d → (1 ≤ y) × (y ≤ last d)) (λ h. absurd (omega arith)) (λ d ne. k.before d);
          listed =
              upd_all point c now (λ d y. times d (list ++ (c ∷ [])) ≡ cond (eqb y 0) 0 1)
              (times_more c c list ∙ rw (not_in, eq-eqb c c refl, ne_eqb now 0 (λ e. omega arith)))
              (λ d ne. times_more d c list ∙ rw (ne_eqb d c ne) (omega (arith, k.listed d)));
          rising =
              pairs_more list c
              (λ d e p q h. rw (upd_other point c now d (other d p), upd_other point c now e (other e q)) h)
              (λ d p. rw (upd_same point c now) (late d))
              k.rising;
        }

    pub ends_now : 1 ≤ point c → Dated now first point (upd last c now) list
    ends_now some =
        record {
          firsts = k.firsts;
          points = k.points;
          after = k.after;
          before = upd_all last c now (λ d y. 1 ≤ y → (1 ≤ point d) × (point d ≤ y)) (λ h. (some, k.points c)) (λ d ne. k.before d);
          listed = k.listed;
          rising = k.rising;
        }
