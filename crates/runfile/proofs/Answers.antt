-- What the reader answers, from its verdict, and what a good answer says of the file. Assumes nothing.
use mathlib.Core.Path.{◌≡◌, refl, ◌∙◌, sym, ap}
use mathlib.Core.Bool.{false, cond}
use mathlib.Core.List.{List}
use Prim.Native.Nat.{ℕ, ◌+◌, ◌*◌, ◌-◌, ◌≤◌}
use native.Mathlib.Omega.{arith}
use borrow.Author.Tests.{ne_eqb, eqb-true, eqb-false, ltb-false, le-ltb, not-false}
use lib.Dec.{eqb, ltb}
use lib.ListN.{length}
use Rattle.std.specs.Prelude.{Ok, Err}
use Rattle.rules.specs.Row.{Verdict, verdict, verdict_of}
use Rattle.rules.specs.Reason.{number_of, k_of, verdict_in}
use Rattle.rules.specs.declared.Reason.{Reason}
use Rattle.rules.proofs.Reasons.{above, numbers_tell}
use Rattle.rules.proofs.Facts.{either_way, or_none}
use Rattle.rules.proofs.Rows.{Clear, clear, clear_front, clear_back, none_given, silent, chosen}
use Rattle.runfile.specs.declared.Contents.{Contents}
use Rattle.runfile.specs.declared.Trailer.{Trailer}
use Rattle.runfile.specs.Layout.{part, trailer_of}
use Rattle.runfile.specs.Reading.{ReadAnswer, turn_count, agrees, trailer_at, number_rows, content_rows, trailer_rows, longest, bad_length, read_rows, no_run, run_by, read_numbers, read_by, read_of}
use Rattle.runfile.specs.Promise.{TrailerPointsBack, ReadsSettled}
use Rattle.runfile.proofs.Limits.{within, Agreed, agreed}

-- the answer to a file with a trailer, from the verdict on it
module _ (f : List ℕ) (lo : 16 ≤ length f) (hi : length f ≤ longest) (z : Trailer) (y : z ≡ trailer_of (part f (length f - 16) (length f - (length f - 16)))) where
  judged : (v : Verdict) → v ≡ verdict_of (trailer_rows f z) → read_of f ≡ read_by z v
  unfolding read_of
  judged v e =
      let l : length f - (length f - 16) ≡ 16 = omega arith in
      let t : z ≡ trailer_at f = y ∙ ap (λ k. trailer_of (part f (length f - 16) k)) l in
      let b : bad_length f ≡ false = rw (le-ltb (length f) 16 lo, le-ltb longest (length f) hi) in
      ap (λ b. read_by (trailer_at f) (cond b (verdict 1 0) (verdict_of (trailer_rows f (trailer_at f))))) b
      ∙ ap (λ w. read_by w (verdict_of (trailer_rows f w))) (sym t)
      ∙ ap (read_by z) (sym e)

  pub refuses : (e : Reason) → verdict_in {A = Unit {0}} (Err e) ≡ verdict_of (trailer_rows f z) → read_numbers (Err e) ≡ read_of f
  refuses e d = sym (judged (verdict (number_of e) (k_of e)) d ∙ rw (ne_eqb (number_of e) 0 (above e)))

  pub gives : verdict 0 0 ≡ verdict_of (trailer_rows f z) → run_by z ≡ read_of f
  gives d = sym (judged (verdict 0 0) d)

-- what it says that nothing is refused in a file with this trailer
pub record Good (f : List ℕ) (z : Trailer) : Type 0 where
  pub long : 16 ≤ length f
  pub form : z.form ≡ 1
  pub numbers : Clear (number_rows f z)
  pub agree : Agreed (length f) z
  pub contents : Clear (content_rows f z)

good : (f : List ℕ) → Clear (read_rows f) → Good f (trailer_at f)
good f c =
    let z = trailer_at f in
    let l = clear_front (number_rows f z) (content_rows f z) c.1.1 in
    record {
      long = ltb-false (length f) 16 (or_none (ltb (length f) 16) (ltb longest (length f)) c.0).0;
      form = eqb-true z.form 1 (not-false (eqb z.form 1) c.1.0);
      numbers = l;
      agree = agreed (length f) z (within z.n z.q (turn_count z) (agrees (length f) z) l).agreed;
      contents = clear_back (number_rows f z) (content_rows f z) c.1.1;
    }

-- a file of which no row holds is read
pub reads : (f : List ℕ) → Clear (read_rows f) → read_of f ≡ run_by (trailer_at f)
unfolding read_of
reads f c = ap (read_by (trailer_at f)) (none_given (read_rows f) c)

-- the answer's number and K are those of its rows
module _ (f : List ℕ) where
  abbrev v : Verdict
  v = verdict_of (read_rows f)

  pub read_number : (read_of f).refused ≡ (verdict_of (read_rows f)).refused
  unfolding read_of
  read_number = chosen (λ r. r.refused) v (run_by (trailer_at f)) (no_run v.refused v.k) sym refl

  pub read_k : (read_of f).k ≡ (verdict_of (read_rows f)).k
  unfolding read_of
  read_k =
      chosen (λ r. r.k) v (run_by (trailer_at f)) (no_run v.refused v.k) (λ e. sym (ap (λ w. w.k) (silent (read_rows f) refl e))) refl

-- what holds of each refusal, and of the answer to a good file, holds of the answer
pub by_answer : (f : List ℕ) (P : ReadAnswer → Type 0) → ((r k : ℕ) → (r ≡ 0 → ⊥) → P (no_run r k))
    → (Good f (trailer_at f) → P (run_by (trailer_at f))) → P (read_of f)
unfolding read_of
by_answer f P refused read =
    let v = verdict_of (read_rows f) in
    either_way (eqb v.refused 0)
    (λ t. rw t (read (good f (clear (read_rows f) refl (eqb-true v.refused 0 t)))))
    (λ u. rw u (refused v.refused v.k (eqb-false v.refused 0 u)))

-- what is read lies within the file
pub record Inside (f : List ℕ) (r : ReadAnswer) : Type 0 where
  pub table : r.start + 12 * r.q ≤ length f
  pub turns : r.middle + r.t ≤ length f

pub inside : (f : List ℕ) → Inside f (read_of f)
inside f =
    by_answer f (Inside f) (λ r k h. record { table = omega arith; turns = omega arith })
    (λ g.
    let a = g.agree in
    record { table = omega arith; turns = omega arith })

-- the table's bytes are no more than the file's
pub table_fits : (f : List ℕ) (r : Contents) → read_numbers (Ok r) ≡ read_of f → 12 * r.q ≤ length f
table_fits f r e =
    let q : r.q ≡ (read_of f).q = ap (λ a. a.q) e in
    let i = (inside f).table in
    rw q (omega arith)

pub points_back : TrailerPointsBack
unfolding TrailerPointsBack
points_back f e =
    let b = by_answer f
    (λ r. r.refused ≡ 0 → (r.start + (trailer_at f).first + 16 ≡ length f) × (r.middle + (trailer_at f).second + 16 ≡ length f))
    (λ r k n e. absurd (n e))
    (λ g e.
    let a = g.agree in
    (omega arith, omega arith)) e in
    record { to_calls = b.0; to_turns = b.1 }

-- what an answer of these numbers holds, where it is not refused
held : ReadAnswer → Contents
held a = record { x = a.x; n = a.n; q = a.q; t = a.t; start = a.start; middle = a.middle }

pub reads_settled : ReadsSettled
unfolding ReadsSettled held
reads_settled (Ok r) (Ok s) e = ap (λ a. Ok (held a)) e
reads_settled (Ok r) (Err d) e = absurd (above d (sym (ap (λ a. a.refused) e)))
reads_settled (Err d) (Ok s) e = absurd (above d (ap (λ a. a.refused) e))
reads_settled (Err d) (Err f) e = ap Err (numbers_tell.reasons d f (ap (λ a. a.refused) e) (ap (λ a. a.k) e))
