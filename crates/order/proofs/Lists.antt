-- Lists of calls: one call more at the end, and what does not depend on calls that are not listed. Assumes nothing.
use mathlib.Core.Path.{◌≡◌, refl}
use mathlib.Core.Bool.{cond}
use mathlib.Core.List.{List, [], ◌∷◌, ◌++◌}
use Prim.Native.Nat.{ℕ, zero, suc, ◌+◌, ◌≤◌, ◌<◌}
use native.Mathlib.Omega.{arith}
use borrow.Author.Tests.{eq-eqb, ne_eqb}
use lib.Dec.{eqb}
use lib.ListN.{length, get_or, take}
use Rattle.rules.proofs.Facts.{either_way}
use Rattle.method.specs.declared.Call.{Call}
use Rattle.method.specs.OneWord.{answer, left}
use Rattle.order.specs.Accepted.{times, Each, served}
use Rattle.order.specs.Demand.{Pairs}

-- what a word that holds x at first answers to call c, where it serves the list's calls one at a time
unfoldable pub answered : ℕ → (ℕ → Call) → List ℕ → ℕ → ℕ
answered x call [] c = 0
answered x call (d ∷ ds) c = cond (eqb c d) (answer x (call d)) (answered (left x (call d)) call ds c)

pub times_more : (c d : ℕ) (l : List ℕ) → times c (l ++ (d ∷ [])) ≡ times c l + cond (eqb c d) 1 0
unfolding times
times_more c d [] = omega arith
times_more c d (e ∷ l) = omega (arith, times_more c d l)

-- the first call of a list is in it, and so are the others
first_in : (c : ℕ) (l : List ℕ) → 1 ≤ times c (c ∷ l)
unfolding times
first_in c l = rw (eq-eqb c c refl) (omega arith)

others_in : (c d : ℕ) (l : List ℕ) → 1 ≤ times c l → 1 ≤ times c (d ∷ l)
unfolding times
others_in c d l h = omega arith

pub at_in : (l : List ℕ) (i : ℕ) → i < length l → 1 ≤ times (get_or l i 0) l
at_in [] i h = absurd (omega arith)
at_in (c ∷ l) zero h = first_in c l
at_in (c ∷ l) (suc i) h = others_in (get_or l i 0) c l (at_in l i (omega arith))

each_more : {P Q : ℕ → Type 0} (l : List ℕ) (c : ℕ) → ((d : ℕ) → 1 ≤ times d l → P d → Q d) → Q c → Each P l → Each Q (l ++ (c ∷ []))
unfolding Each
each_more [] c f q h = (q, tt)
each_more (d ∷ l) c f q h = (f d (first_in d l) h.0, each_more l c (λ e i. f e (others_in e d l i)) q h.1)

pub pairs_more : {R S : ℕ → ℕ → Type 0} (l : List ℕ) (c : ℕ) → ((d e : ℕ) → 1 ≤ times d l → 1 ≤ times e l → R d e → S d e)
    → ((d : ℕ) → 1 ≤ times d l → S d c) → Pairs R l → Pairs S (l ++ (c ∷ []))
unfolding Pairs Each
pairs_more [] c f q h = (tt, tt)
pairs_more (d ∷ l) c f q h = (
  each_more l c (λ e i. f d e (first_in d l) (others_in e d l i)) (q d (first_in d l)) h.0,
  pairs_more l c (λ e g i j. f e g (others_in e d l i) (others_in g d l j)) (λ e i. q e (others_in e d l i)) h.1,
)

pub each_map : {P Q : ℕ → Type 0} (l : List ℕ) → ((d : ℕ) → 1 ≤ times d l → P d → Q d) → Each P l → Each Q l
unfolding Each
each_map [] f h = tt
each_map (d ∷ l) f h = (f d (first_in d l) h.0, each_map l (λ e i. f e (others_in e d l i)) h.1)

pub pairs-map : {R S : ℕ → ℕ → Type 0} (l : List ℕ) → ((d e : ℕ) → 1 ≤ times d l → 1 ≤ times e l → R d e → S d e) → Pairs R l → Pairs S l
unfolding Pairs
pairs-map [] f h = tt
pairs-map (d ∷ l) f h =
    (each_map l (λ e i. f d e (first_in d l) (others_in e d l i)) h.0, pairs-map l (λ e g i j. f e g (others_in e d l i) (others_in g d l j)) h.1)

-- by places in the list
each_at : (P : ℕ → Type 0) (l : List ℕ) (i : ℕ) → i < length l → Each P l → P (get_or l i 0)
unfolding Each
each_at P [] i h e = absurd (omega arith)
each_at P (c ∷ l) zero h e = e.0
each_at P (c ∷ l) (suc i) h e = each_at P l i (omega arith) e.1

pub pairs_at : (R : ℕ → ℕ → Type 0) (l : List ℕ) (i j : ℕ) → i < j → j < length l → Pairs R l → R (get_or l i 0) (get_or l j 0)
unfolding Pairs
pairs_at R [] i j g h p = absurd (omega arith)
pairs_at R (c ∷ l) i zero g h p = absurd (omega arith)
pairs_at R (c ∷ l) zero (suc j) g h p = each_at (R c) l j (omega arith) p.0
pairs_at R (c ∷ l) (suc i) (suc j) g h p = pairs_at R l i j (omega arith) (omega arith) p.1

-- a place in the list, and the calls before it
pub times_take : (l : List ℕ) (i : ℕ) → i < length l → times (get_or l i 0) (take i l) < times (get_or l i 0) l
unfolding times
times_take [] i h = absurd (omega arith)
times_take (c ∷ l) zero h = first_in c l
times_take (c ∷ l) (suc i) h = let r = times_take l i (omega arith) in omega arith

pub each_take : (R : ℕ → ℕ → Type 0) (l : List ℕ) (i : ℕ) → i < length l → Pairs R l → Each (λ d. R d (get_or l i 0)) (take i l)
unfolding Pairs Each
each_take R [] i h p = absurd (omega arith)
each_take R (c ∷ l) zero h p = tt
each_take R (c ∷ l) (suc i) h p = (each_at (R c) l i (omega arith) p.0, each_take R l i (omega arith) p.1)

pub answered_at : (f : ℕ → Call) (l : List ℕ) (x i : ℕ) → i < length l → times (get_or l i 0) (take i l) ≡ 0
    → answered x f l (get_or l i 0) ≡ answer (served x f (take i l)) (f (get_or l i 0))
unfolding answered served times
answered_at f [] x i h e = absurd (omega arith)
answered_at f (c ∷ l) x zero h e = rw (eq-eqb c c refl)
answered_at f (c ∷ l) x (suc i) h e =
    let d = get_or l i 0 in
    either_way (eqb d c)
    (λ t. absurd (let z : 1 + times d (take i l) ≡ 0 = rw t at e in omega arith))
    (λ o. rw o (answered_at f l (left x (f c)) i (omega arith) (omega (arith, e))))

-- the word depends on listed calls alone
module _ (f h : ℕ → Call) where
  pub served_same : (l : List ℕ) (x : ℕ) → ((d : ℕ) → 1 ≤ times d l → f d ≡ h d) → served x f l ≡ served x h l
  unfolding served
  served_same [] x e = refl
  served_same (d ∷ l) x e = rw (e d (first_in d l)) (served_same l (left x (h d)) (λ j i. e j (others_in j d l i)))

  pub answered_same : (l : List ℕ) (x c : ℕ) → ((d : ℕ) → 1 ≤ times d l → f d ≡ h d) → answered x f l c ≡ answered x h l c
  unfolding answered
  answered_same [] x c e = refl
  answered_same (d ∷ l) x c e =
      rw (e d (first_in d l)) (either_way (eqb c d) (λ t. rw t) (λ o. rw o (answered_same l (left x (h d)) c (λ j i. e j (others_in j d l i)))))

-- one call more
module _ (f : ℕ → Call) where
  pub served_more : (l : List ℕ) (x c : ℕ) → served x f (l ++ (c ∷ [])) ≡ left (served x f l) (f c)
  unfolding served
  served_more [] x c = refl
  served_more (d ∷ l) x c = served_more l (left x (f d)) c

  -- leaves what the others are answered
  pub answered_other : (l : List ℕ) (x c d : ℕ) → (d ≡ c → ⊥) → answered x f (l ++ (c ∷ [])) d ≡ answered x f l d
  unfolding answered
  answered_other [] x c d ne = rw (ne_eqb d c ne)
  answered_other (e ∷ l) x c d ne = either_way (eqb d e) (λ t. rw t) (λ o. rw o (answered_other l (left x (f e)) c d ne))

  -- and is answered last
  pub answered_last : (l : List ℕ) (x c : ℕ) → times c l ≡ 0 → answered x f (l ++ (c ∷ [])) c ≡ answer (served x f l) (f c)
  unfolding answered served times
  answered_last [] x c h = rw (eq-eqb c c refl)
  answered_last (d ∷ l) x c h =
      either_way (eqb c d)
      (λ t. absurd (let z : 1 + times c l ≡ 0 = rw t at h in omega arith))
      (λ e. rw e (answered_last l (left x (f d)) c (omega (arith, h))))
