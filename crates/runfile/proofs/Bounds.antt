-- The reader's and the writer's refusals are small numbers: a refusal of at most 14, and a K of at most as many as there can be turns.
-- Assumes nothing.
use mathlib.Core.Path.{◌≡◌, refl}
use mathlib.Core.Bool.{Bool, false, cond, not, ◌||◌}
use mathlib.Core.List.{List}
use Prim.Native.Nat.{ℕ, zero, suc, ◌+◌, ◌*◌, ◌%◌, ◌≤◌}
use native.Mathlib.Omega.{arith}
use borrow.Author.Tests.{ltb-false}
use lib.Dec.{eqb, ltb}
use lib.ListN.{length, length-take}
use Rattle.rules.specs.Limits.{station_limit, call_limit, turn_limit}
use Rattle.rules.specs.Row.{Verdict}
use Rattle.rules.specs.Row.{verdict, verdict_of}
use Rattle.rules.proofs.Facts.{either_way}
use Rattle.runfile.specs.First.{first_from}
use Rattle.runfile.specs.Layout.{records}
use Rattle.runfile.specs.Reading.{bad_call_at, bad_turn_at, first_call, first_turn, trailer_at, turn_count, agrees, table_by, turns_by, bad_length, read_rows, read_of}
use Rattle.runfile.specs.Writing.{file_length, write_rows}
use Rattle.runfile.proofs.Answers.{by_answer, read_number, read_k}

pub record Small (v : Verdict) : Type 0 where
  pub number : v.refused ≤ 14
  pub which : v.k ≤ turn_limit

picked : (b : Bool) {v w : Verdict} → Small v → (b ≡ false → Small w) → Small (cond b v w)
picked b s h = either_way b (λ t. rw t s) (λ f. rw f (h f))

numbered : (n : ℕ) → n ≤ 14 → Small (verdict n 0)
numbered n h = record { number = h; which = omega arith }

-- refusals 3 to 6, and then others
small_limits : (n q t : ℕ) (agree : Bool) (w : Verdict) → (q ≤ call_limit → t ≤ turn_limit → Small w)
    → Small (cond (eqb n 0 || ltb station_limit n) (verdict 3 0) (cond (ltb call_limit q) (verdict 4 0) (cond (ltb turn_limit t) (verdict 5 0) (cond (not agree) (verdict 6 0) w))))
small_limits n q t agree w h =
    picked (eqb n 0 || ltb station_limit n) (numbered 3 (omega arith))
    (λ a. picked (ltb call_limit q) (numbered 4 (omega arith))
    (λ b. picked (ltb turn_limit t) (numbered 5 (omega arith))
    (λ c. picked (not agree) (numbered 6 (omega arith))
    (λ d. h (ltb-false call_limit q b) (ltb-false turn_limit t c)))))

-- refusals 7 and 8, and then others
small_parts : (call turn : ℕ) (w : Verdict) → call ≤ call_limit → turn ≤ turn_limit → Small w
    → Small (cond (ltb 0 call) (verdict 7 call) (cond (ltb 0 turn) (verdict 8 turn) w))
small_parts call turn w h g s =
    picked (ltb 0 call) (record { number = omega arith; which = omega arith })
    (λ a. picked (ltb 0 turn) (record { number = omega arith; which = g }) (λ b. s))

-- a first is one of those that are looked at
first_within : (p : ℕ → Bool) (m i : ℕ) → first_from p i m ≤ i + m
unfolding first_from
first_within p zero i = omega arith
first_within p (suc m) i = either_way (p i) (λ t. rw t (omega arith)) (λ f. rw f (omega (arith, first_within p m (suc i))))

call_within : (n : ℕ) (table : List ℕ) → first_call n table ≤ records table
unfolding first_call
call_within n table = omega (arith, first_within (bad_call_at n table) (records table) 0)

turn_within : (n : ℕ) (turns : List ℕ) → first_turn n turns ≤ length turns
unfolding first_turn
turn_within n turns = omega (arith, first_within (bad_turn_at n turns) (length turns) 0)

small_read : (file : List ℕ) → Small (verdict_of (read_rows file))
small_read file =
    let z = trailer_at file in
    picked (bad_length file) (numbered 1 (omega arith))
    (λ a. picked (not (eqb z.form 1)) (numbered 2 (omega arith))
    (λ b. small_limits z.n z.q (turn_count z) (agrees (length file) z) _
    (λ c d.
    let l : length (table_by z file) ≤ 12 * z.q = simp length-take (omega arith) in
    let m : length (turns_by z file) ≤ turn_count z = simp length-take (omega arith) in
    small_parts (first_call z.n (table_by z file)) (first_turn z.n (turns_by z file)) _
    (omega (arith, call_within z.n (table_by z file)))
    (omega (arith, turn_within z.n (turns_by z file)))
    (numbered 0 (omega arith)))))

pub small_write : (n : ℕ) (table turns : List ℕ) (room : ℕ) → Small (verdict_of (write_rows n table turns room))
small_write n table turns room =
    small_limits n (records table) (length turns) (eqb (length table % 12) 0) _
    (λ c d.
    small_parts (first_call n table) (first_turn n turns) _ (omega (arith, call_within n table)) (omega (arith, turn_within n turns))
    (picked (ltb room (file_length table turns)) (numbered 14 (omega arith)) (λ e. numbered 0 (omega arith))))

module _ (file : List ℕ) where
  pub number_read : (read_of file).refused ≤ 14
  number_read = rw (read_number file) (small_read file).number

  pub k_read : (read_of file).k ≤ turn_limit
  k_read = rw (read_k file) (small_read file).which

  pub no_k_lem : (read_of file).refused ≡ 0 → (read_of file).k ≡ 0
  no_k_lem = by_answer file (λ r. r.refused ≡ 0 → r.k ≡ 0) (λ r k h e. absurd (h e)) (λ g e. refl)
