-- The test of the entries, one more at a time: each by itself says the same as all in a row, and where all hold each holds. Assumes nothing.
use mathlib.Core.Path.{◌≡◌, refl, ◌∙◌, sym, ap}
use mathlib.Core.Logic.{⊎_elim}
use mathlib.Core.Bool.{Bool, true, ◌&&◌, and-true, and_assoc}
use Prim.Native.Nat.{ℕ, zero, suc, ◌+◌, ◌<◌}
use native.Mathlib.Omega.{arith}
use native.Mathlib.Numerals.{add-one}
use native.Mathlib.Nat.{add-zero, zero-add, le_refl, le_step, le_of_suc-le-suc, not-suc-le-zero, eq-or-lt_of_le}
use Rattle.rules.proofs.Facts.{and_left, and_right, and_both}
use Rattle.std.specs.List.{list_all, range_with_len}
use Rattle.bench.specs.declared.Bench.{Bench}
use Rattle.bench.specs.Record.{station_at, a_at, r_at}
use Rattle.bench.specs.Sound.{entry_kept, each_entry}

abbrev pub kept_at : ℕ → Bench → ℕ → Bool
kept_at limit w i = entry_kept limit w.n i (a_at w i) (r_at w i) (station_at w i)

-- entries 0 to i - 1, and then k more
all_more : (limit : ℕ) (w : Bench) (i k : ℕ) → (each_entry limit w i && list_all (kept_at limit w) (range_with_len i k)) ≡ each_entry limit w (i + k)
unfolding each_entry
all_more limit w i zero = and-true (each_entry limit w i) ∙ ap (each_entry limit w) (sym (add-zero i))
all_more limit w i (suc k) =
    let rest = list_all (kept_at limit w) (range_with_len (i + 1) k) in
    let e : (i + 1) + k ≡ i + suc k = omega arith in
    sym (and_assoc (each_entry limit w i) (kept_at limit w i) rest)
    ∙ ap (λ j. each_entry limit w j && rest) (sym (add-one i)) ∙ all_more limit w (i + 1) k ∙ ap (each_entry limit w) e

pub all_tested : (limit : ℕ) (w : Bench) (k : ℕ) → list_all (kept_at limit w) (range_with_len 0 k) ≡ each_entry limit w k
unfolding each_entry
all_tested limit w k = all_more limit w 0 k ∙ ap (each_entry limit w) (zero-add k)

pub each_holds : (limit : ℕ) (w : Bench) (i k : ℕ) → i < k → each_entry limit w k ≡ true → kept_at limit w i ≡ true
unfolding each_entry
each_holds limit w i zero h e = absurd (not-suc-le-zero h)
each_holds limit w i (suc k) h e =
    ⊎_elim
    (λ (q : i ≡ k). rw q (and_right (each_entry limit w k) (kept_at limit w k) e))
    (λ (q : i < k). each_holds limit w i k q (and_left (each_entry limit w k) (kept_at limit w k) e))
    (eq-or-lt_of_le (le_of_suc-le-suc h))

pub all_hold : (limit : ℕ) (w : Bench) (k : ℕ) → ((i : ℕ) → i < k → kept_at limit w i ≡ true) → each_entry limit w k ≡ true
unfolding each_entry
all_hold limit w zero h = refl
all_hold limit w (suc k) h = and_both (all_hold limit w k (λ i g. h i (le_step g))) (h k (le_refl (suc k)))
