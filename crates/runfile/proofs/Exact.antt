-- Refusals of the reader and of the writer, exactly when, with their K; the writer's contract settles its answer. Assumes nothing.
use mathlib.Core.Path.{◌≡◌, refl, ◌∙◌, sym, ap}
use mathlib.Core.Logic.{◌↔◌}
use mathlib.Core.Bool.{Bool, true, false, cond, not, ◌||◌}
use mathlib.Core.List.{List, []}
use Prim.Native.Nat.{ℕ, ◌*◌, ◌%◌, ◌<◌}
use native.Mathlib.Omega.{arith}
use borrow.Author.Tests.{eqb-true, ltb-true, ltb-false, le-ltb, ne_eqb, not-false}
use lib.Dec.{eqb, ltb}
use lib.ListN.{length}
use Rattle.rules.proofs.Reasons.{numbers_tell}
use Rattle.rules.specs.Limits.{station_limit, call_limit, turn_limit}
use Rattle.rules.specs.Refusal.{holds_at, earlier, proper}
use Rattle.rules.specs.Row.{Row, verdict_of, refusals, k_at, RowsExactly, ExactRows}
use Rattle.rules.proofs.Facts.{or_none}
use Rattle.rules.proofs.Rows.{exact_rows}
use Rattle.runfile.specs.First.{first_of}
use Rattle.runfile.specs.Layout.{part, records}
use Rattle.runfile.specs.Reading.{bad_call_at, bad_turn_at, first_call, first_turn, trailer_at, table_by, turns_by, read_rows, no_run, read_of}
use Rattle.runfile.specs.Writing.{file_length, write_rows, write_of}
use Rattle.runfile.specs.Promise.{WriterEnough, Exactly, Emptied, RefusedExactly, WriterSettled}
use Rattle.runfile.proofs.Answers.{by_answer, read_number, read_k}
use Rattle.runfile.proofs.First.{searched}
use Rattle.runfile.proofs.Writes.{write_number, write_k}

-- a row that holds where a search found something fails exactly where all is good
all_good : (p : ℕ → Bool) (m : ℕ) {b : Bool} → b ≡ ltb 0 (first_of p m) → (b ≡ false) ↔ ((i : ℕ) → i < m → p i ≡ false)
all_good p m e =
    let s = (searched p m).none in
    (λ f. s.0 (omega (arith, ltb-false 0 (first_of p m) (sym e ∙ f))), λ h. e ∙ le-ltb 0 (first_of p m) (omega (arith, s.1 h)))

-- rows 7 and 8 of a table name the first bad call and turn, and its other rows no K
record Naming (rows : List Row) (n : ℕ) (table turns : List ℕ) : Type 0 where
  once : proper (refusals rows) ≡ true
  bad_calls : holds_at (refusals rows) 7 ≡ ltb 0 (first_call n table)
  bad_turns : holds_at (refusals rows) 8 ≡ ltb 0 (first_turn n turns)
  call_k : k_at rows 7 ≡ first_call n table
  turn_k : k_at rows 8 ≡ first_turn n turns
  no_k : (m : ℕ) → (m ≡ 7 → ⊥) → (m ≡ 8 → ⊥) → k_at rows m ≡ 0

module _ {rows : List Row} {n : ℕ} {table turns : List ℕ} (d : Naming rows n table turns) where
  told : RowsExactly rows
  unfolding ExactRows
  told = exact_rows rows d.once

  -- a given refusal holds
  held : (m : ℕ) → ltb 0 m ≡ true → (verdict_of rows).refused ≡ m → holds_at (refusals rows) m ≡ true
  held m l e = ((told.exactly.some m).0 (sym told.number ∙ e, l)).0

  exactly_by : (refused k : ℕ) → refused ≡ (verdict_of rows).refused → k ≡ (verdict_of rows).k → Exactly rows refused k n table turns
  unfolding first_call first_turn
  exactly_by refused k r c =
      let named : k ≡ k_at rows refused = c ∙ told.k ∙ ap (k_at rows) (sym r) in
      record {
        number = r ∙ told.number;
        exactly = told.exactly;
        good_calls = all_good (bad_call_at n table) (records table) d.bad_calls;
        good_turns = all_good (bad_turn_at n turns) (length turns) d.bad_turns;
        call = λ e.
            let h = sym d.bad_calls ∙ held 7 refl (sym r ∙ e) in
            let q = named ∙ ap (k_at rows) e ∙ d.call_k in
            ((searched (bad_call_at n table) (records table)).found k).0 (sym q, omega (arith, ltb-true 0 (first_call n table) h));
        turn = λ e.
            let h = sym d.bad_turns ∙ held 8 refl (sym r ∙ e) in
            let q = named ∙ ap (k_at rows) e ∙ d.turn_k in
            ((searched (bad_turn_at n turns) (length turns)).found k).0 (sym q, omega (arith, ltb-true 0 (first_turn n turns) h));
        other = λ a b. named ∙ d.no_k refused a b;
      }

-- rows that name no K give none
nothing : (b : Bool) → cond {A = ℕ} b 0 0 ≡ 0
nothing true = refl
nothing false = refl

reader : (f : List ℕ) → Exactly (read_rows f) (read_of f).refused (read_of f).k (trailer_at f).n (table_by (trailer_at f) f) (turns_by (trailer_at f) f)
unfolding holds_at
reader f =
    exactly_by
    (record { once = refl; bad_calls = refl; bad_turns = refl; call_k = refl; turn_k = refl; no_k = λ m a b. simp (ne_eqb m 7 a, ne_eqb m 8 b, nothing) })
    (read_of f).refused (read_of f).k (read_number f) (read_k f)

writer : (n : ℕ) (table turns : List ℕ) (room : ℕ) → Exactly (write_rows n table turns room) (write_of n table turns room).refused (write_of n table turns room).k n table turns
unfolding holds_at
writer n table turns room =
    exactly_by
    (record { once = refl; bad_calls = refl; bad_turns = refl; call_k = refl; turn_k = refl; no_k = λ m a b. simp (ne_eqb m 7 a, ne_eqb m 8 b, nothing) })
    (write_of n table turns room).refused (write_of n table turns room).k (write_number n table turns room) (write_k n table turns room)

-- where 14 holds and none before it does, the run is within its limits and the room is less than its file
pub writer_enough : WriterEnough
unfolding WriterEnough holds_at earlier
writer_enough n table turns room h e =
    let w = writer n table turns room in
    let g = (w.exactly.some 14).0 (sym w.number ∙ e, refl) in
    let l = ltb-true room (file_length table turns) g.0 in
    let a = or_none (eqb n 0 || ltb station_limit n) _ g.1 in
    let b = or_none (ltb call_limit (records table)) _ a.1 in
    let c = or_none (ltb turn_limit (length turns)) _ b.1 in
    let d = or_none (not (eqb (length table % 12) 0)) _ c.1 in
    let q = ltb-false call_limit (records table) b.0 in
    let t = ltb-false turn_limit (length turns) c.0 in
    let m = eqb-true (length table % 12) 0 (not-false (eqb (length table % 12) 0) d.0) in
    omega arith

emptied : (f : List ℕ) → ((read_of f).refused ≡ 0 → ⊥) → Emptied f
emptied f h =
    let e = by_answer f
    (λ r. (r.refused ≡ 0 → ⊥) → (r ≡ no_run r.refused r.k) × ((part f r.start (12 * r.q) ≡ []) × (part f r.middle r.t ≡ [])))
    (λ r k n g. (refl, (refl, refl))) (λ g n. absurd (n refl)) h in
    record { numbers = e.0; calls = e.1.0; moves = e.1.1 }

pub refused_exactly : RefusedExactly
refused_exactly = record { search = searched; reader = reader; emptied = emptied; writer = writer }

pub writer_settled : WriterSettled
writer_settled =
    record {
      by_numbers = λ x n table turns out a b after after' v w. (v.answered ∙ sym w.answered, v.left ∙ sym w.left);
      answers = λ x n table turns out r s after after' v w. (numbers_tell.answers r s (v.answered ∙ sym w.answered), v.left ∙ sym w.left);
    }
