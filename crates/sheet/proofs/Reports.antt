-- What the report answers and leaves in the buffer, from the trace of the run. Assumes nothing.
use mathlib.Core.Path.{◌≡◌, refl, ◌∙◌, sym, ap}
use mathlib.Core.Bool.{true, false}
use mathlib.Core.List.{List}
use Prim.Native.Nat.{ℕ, ◌*◌, ◌≤◌}
use native.Mathlib.Omega.{arith}
use borrow.Author.Tests.{eq-eqb, eqb-true, leb-true, leb-false, lt-ltb, le-ltb}
use lib.Dec.{leb, eqb}
use lib.ListN.{length, drop}
use Rattle.rules.proofs.Reasons.{numbers_tell}
use Rattle.octets.specs.Bytes.{AllBytes}
use Rattle.rules.proofs.Facts.{either_way}
use Rattle.script.specs.Wrote.{Wrote}
use Rattle.script.proofs.Writes.{size, in_front}
use Rattle.runfile.specs.Layout.{part}
use Rattle.runfile.specs.Reading.{read_of, table_of}
use Rattle.runfile.proofs.Answers.{by_answer, inside}
use Rattle.run.specs.declared.Trace.{Trace}
use Rattle.run.specs.Drive.{run_of_file}
use Rattle.run.specs.Row.{row_places}
use Rattle.run.specs.Trace.{TraceNumbers, given_trace, trace_by, trace_of, TracedTo, book_of}
use Rattle.run.proofs.Back.{file_long}
use Rattle.limits.specs.Small.{SmallNumbers}
use Rattle.limits.proofs.Promised.{small_numbers}
use Rattle.lines.specs.Lines.{sheet_text}
use Rattle.sheet.specs.Report.{report_text, reported, report_of, reported_on, ReportedTo, AlwaysEnough, ReportSettled}
use Rattle.sheet.proofs.Listing.{same_sheet}
use Rattle.sheet.proofs.Lengths.{length-report}

-- the call table stands at the front
from_front : (file : List ℕ) → (read_of file).start ≡ 0
from_front file = by_answer file (λ r. r.start ≡ 0) (λ r k n. refl) (λ g. refl)

-- the trace is the file's refusal
pub refused : (file out row row' : List ℕ) (t : TraceNumbers) → length row ≡ row_places → TracedTo file row t row' → (t.refused ≡ 0 → ⊥)
    → ReportedTo file out (reported t.refused t.k 0) out
unfolding report_of reported_on trace_of
refused file out row row' t f e h =
    let given : t ≡ trace_of file row_places = e.answered ∙ ap (trace_of file) f in
    either_way (eqb (read_of file).refused 0)
    (λ b. absurd (h (ap (λ (t : TraceNumbers). t.refused) given ∙ rw b refl)))
    (λ b.
    let same : t.refused ≡ (read_of file).refused = ap (λ (t : TraceNumbers). t.refused) given ∙ rw b refl in
    let k : t.k ≡ (read_of file).k = ap (λ (t : TraceNumbers). t.k) given ∙ rw b refl in
    record { answered = simp (b, same, k); left = simp (b, b) })

-- what a trace's numbers tell beside its refusal
abbrev trace_in : TraceNumbers → Trace
trace_in n = record { calls = n.calls; turns = n.turns; idle = n.idle; begun = n.begun; ended = n.ended; listed = n.listed; val = n.val; seq = n.seq }

-- or the file's run
module _ (file row row' : List ℕ) (t : Trace) (f : length row ≡ row_places) (e : TracedTo file row (given_trace t) row') where
  given : given_trace t ≡ trace_of file row_places
  given = e.answered ∙ ap (trace_of file) f

  well : (read_of file).refused ≡ 0
  unfolding trace_of
  well =
      either_way (eqb (read_of file).refused 0) (λ b. eqb-true (read_of file).refused 0 b)
      (λ b. sym (ap (λ (t : TraceNumbers). t.refused) given ∙ rw b refl))

  numbers : t ≡ trace_by (read_of file).q (run_of_file file)
  unfolding trace_of
  numbers =
      let z : trace_of file row_places ≡ given_trace (trace_by (read_of file).q (run_of_file file)) = rw (eq-eqb (read_of file).refused 0 well) refl in
      ap trace_in (given ∙ z)

  -- so many calls are the file's call table, and in it
  pub within : 12 * t.calls ≤ length file
  within = let i = (inside file).table in omega (arith, ap (λ (t : Trace). t.calls) numbers)

  -- of a table that is so many calls of the file
  module _ (h : AllBytes file) (table : List ℕ) (g : table ≡ part file 0 (12 * t.calls)) where
    abbrev text : List ℕ
    text = sheet_text t table (book_of t row')

    the_table : table ≡ table_of file
    the_table = g ∙ rw (numbers, from_front file)

    same_text : text ≡ report_text file
    unfolding report_text SmallNumbers
    same_text =
        let few = (small_numbers file h well).listed in
        rw (numbers, the_table, e.left) (same_sheet (read_of file).q (table_of file) (run_of_file file) (drop row_places row) (file_long file) (omega arith))

    pub at_most : length text ≤ 40960
    at_most = rw same_text (length-report file h well)

    -- the buffer is too short for the text, or the text is in it
    module _ (out : List ℕ) where
      pub too_long : false ≡ leb (length text) (length out) → ReportedTo file out (reported 14 0 0) out
      unfolding report_of reported_on
      too_long l =
          let b = eq-eqb (read_of file).refused 0 well in
          let k = lt-ltb (length out) (length (report_text file)) (rw same_text at (leb-false (length text) (length out) (sym l))) in
          record { answered = simp (b, k); left = simp (b, k) }

      pub in_place : {after : List ℕ} {j : ℕ} → true ≡ leb (length text) (length out) → Wrote out after 0 j text → ReportedTo file out (reported 0 0 j) after
      unfolding report_of reported_on
      in_place l v =
          let b = eq-eqb (read_of file).refused 0 well in
          let m = leb-true (length text) (length out) (sym l) in
          let k = le-ltb (length out) (length (report_text file)) (rw same_text at m) in
          let n = size v (omega (arith, at_most)) in
          record { answered = simp (b, k, n, same_text); left = simp (b, k) (rw same_text at (in_front v m)) }

pub always_enough : AlwaysEnough
unfolding AlwaysEnough report_of
always_enough file room h enough =
    either_way (eqb (read_of file).refused 0)
    (λ b.
    let z = eqb-true (read_of file).refused 0 b in
    let l = length-report file h z in
    let k = le-ltb room (length (report_text file)) (omega arith) in
    simp (b, k) (sym z))
    (λ b. rw b)

pub settled : ReportSettled
settled =
    record {
      by_numbers = λ file out a b c d v w. (v.answered ∙ sym w.answered, v.left ∙ sym w.left);
      answers = λ file out r s c d v w. (numbers_tell.answers r s (v.answered ∙ sym w.answered), v.left ∙ sym w.left);
    }
