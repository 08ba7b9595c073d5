-- The trace that is handed out, from what the run left or from a refusal. Assumes nothing.
use mathlib.Core.Path.{◌≡◌, refl, ◌∙◌, sym, ap}
use mathlib.Core.List.{List, ◌++◌, append-nil}
use Prim.Native.Nat.{ℕ, ◌+◌, ◌-◌, ◌<◌, ◌≤◌}
use native.Mathlib.Omega.{arith}
use borrow.Author.Tests.{eq-eqb, ne_eqb, lt-ltb, le-ltb}
use lib.ListN.{length, get_or, take, drop, length-drop, replicate, length-replicate, get_or-replicate}
use Rattle.std.proofs.lemmas.List.{drop_all}
use lib.Seq.{ext_get_or, length-take-le, take-take, take-add}
use borrow.Rule.Slice.PartMut.{put_mid}
use Rattle.std.specs.Prelude.{Result, Ok, Err}
use Rattle.rules.specs.declared.Reason.{Reason}
use Rattle.rules.specs.Reason.{number_of, k_of}
use Rattle.rules.proofs.Reasons.{above, numbers_tell}
use Rattle.runfile.specs.Reading.{ReadAnswer, no_run, read_of, turns_of}
use Rattle.runfile.proofs.Answers.{inside}
use Rattle.runfile.proofs.Trailers.{length_part}
use Rattle.run.specs.declared.Tally.{Tally}
use Rattle.run.specs.declared.Trace.{Trace}
use Rattle.run.specs.declared.Drove.{Drove}
use Rattle.run.specs.Row.{size_of, start_of, row_places, part_of, book_in, RowFits}
use Rattle.run.specs.Drive.{run_of_file}
use Rattle.run.specs.Trace.{row_of, TraceNumbers, no_trace, given_trace, trace_numbers, trace_by, trace_of, TracedTo, RanTo}
use Rattle.run.proofs.Written.{long}
use Rattle.run.proofs.Points.{few_listed}
use Rattle.run.proofs.Loop.{state}

-- the numbers that a run of so many calls and turns leaves
abbrev pub drawn : Drove → ℕ → ℕ → Trace
drawn d calls turns =
    record {
      calls = calls;
      turns = turns;
      idle = d.tally.idle;
      begun = d.tally.begun;
      ended = d.tally.ended;
      listed = d.tally.listed;
      val = d.bench.v.second;
      seq = d.bench.v.first;
    }

-- a row with zeros after its list is its book's
module _ (row : List ℕ) (s : Tally) (f : RowFits row s) where
  pub how_many_listed : length (book_in row s).list ≡ s.listed
  unfolding size_of
  how_many_listed = length-take-le s.listed (part_of row 4) (omega (arith, few_listed f, long row 4 f.places (omega arith)))

  in_front : take 4100 row ≡ part_of row 0 ++ part_of row 1 ++ part_of row 2 ++ part_of row 3
  unfolding start_of size_of part_of
  in_front =
      take-add 3075 1025 row
      ∙ ap (λ l. l ++ take 1025 (drop 3075 row)) (take-add 2050 1025 row ∙ ap (λ l. l ++ take 1025 (drop 2050 row)) (take-add 1025 1025 row))

  in_list : take s.listed (drop 4100 row) ≡ take s.listed (part_of row 4)
  unfolding start_of size_of part_of
  in_list = sym (take-take s.listed 1025 (drop 4100 row) (few_listed f))

  pub as_row : (zeros : List ℕ) → zeros ≡ replicate (length row - (4100 + s.listed)) 0 → put_mid (4100 + s.listed) (length row - (4100 + s.listed)) row zeros ≡ row_of (book_in row s)
  unfolding row_of start_of size_of
  as_row zeros e =
      let at = 4100 + s.listed in
      rw (drop_all (length row - at) (drop at row) (omega (arith, length-drop at row)), e, append-nil (replicate {A = ℕ} (length row - (4100 + s.listed)) 0), f.places, how_many_listed)
      (ap (λ l. l ++ replicate (6249 - (4100 + s.listed)) 0) (take-add 4100 s.listed row ∙ ap (λ l. l ++ take s.listed (drop 4100 row)) in_front
      ∙ ap (λ l. part_of row 0 ++ part_of row 1 ++ part_of row 2 ++ part_of row 3 ++ l) in_list))

module _ (file row : List ℕ) (d : Drove) (f : RowFits row d.tally) (ran : state d.bench (length (turns_of file)) (book_in row d.tally) ≡ run_of_file file) where
  numbers : (calls turns : ℕ) → calls ≡ (read_of file).q → turns ≡ length (turns_of file) → drawn d calls turns ≡ trace_by (read_of file).q (run_of_file file)
  numbers calls turns h e =
      let listed : d.tally.listed ≡ length (run_of_file file).book.list = sym (how_many_listed row d.tally f) ∙ ap (λ r. length r.book.list) ran in
      λ i. record {
        calls = h i;
        turns = (e ∙ ap (λ r. r.turns) ran) i;
        idle = (ran i).book.idle;
        begun = (ran i).book.begun;
        ended = (ran i).book.ended;
        listed = listed i;
        val = (ran i).bench.v.second;
        seq = (ran i).bench.v.first;
      }

  -- with zeros after the list
  pub whole : (zeros : List ℕ) (calls turns : ℕ) → calls ≡ (read_of file).q → turns ≡ length (turns_of file) → zeros ≡ replicate (length row - (4100 + d.tally.listed)) 0
      → RanTo file (drawn d calls turns) (put_mid (4100 + d.tally.listed) (length row - (4100 + d.tally.listed)) row zeros)
  whole zeros calls turns h e cleared = record {
    answered = numbers calls turns h e;
    left = as_row row d.tally f zeros cleared ∙ ap (λ r. row_of r.book) ran;
  }

-- the number of turns that was read
pub turns_counted : (file : List ℕ) (a : ReadAnswer) → a ≡ read_of file → a.t ≡ length (turns_of file)
turns_counted file a e = ap (λ r. r.t) e ∙ sym (length_part file (read_of file).middle (read_of file).t (inside file).turns)

-- a list that is zero everywhere is one of zeros
pub all_zeros : (l : List ℕ) (n : ℕ) → length l ≡ n → ((k : ℕ) → k < n → get_or l k 0 ≡ 0) → l ≡ replicate n 0
all_zeros l n long zero = ext_get_or 0 l (replicate n 0) (long ∙ sym (length-replicate n 0)) (λ k h. zero k (omega (arith, long)) ∙ sym (get_or-replicate n k 0 0 (omega (arith, long))))

module _ (file row : List ℕ) where
  -- the file's refusal
  pub refused : (e : Reason) → no_run (number_of e) (k_of e) ≡ read_of file → TracedTo file row (no_trace (number_of e) (k_of e)) row
  unfolding trace_of
  refused e q =
      let b = ne_eqb (number_of e) 0 (above e) in
      record { answered = simp (sym q, b); left = simp b }

  -- 14
  pub too_short : (read_of file).refused ≡ 0 → length row < row_places → TracedTo file row (no_trace 14 0) row
  unfolding trace_of
  too_short well short = record { answered = rw (eq-eqb (read_of file).refused 0 well, lt-ltb (length row) row_places short); left = refl }

  -- a row that is long enough, of which the run was given the front
  pub long_enough : (t : Trace) (front : List ℕ) → (read_of file).refused ≡ 0 → row_places ≤ length row → RanTo file t front
      → TracedTo file row (given_trace t) (front ++ drop row_places row)
  unfolding trace_of
  long_enough t front well room ran =
      rw (ran.answered, ran.left)
      (record { answered = rw (eq-eqb (read_of file).refused 0 well, le-ltb (length row) row_places room); left = refl })

-- the numbers tell the trace, or the reason why there is none
trace_with : TraceNumbers → Trace
trace_with x =
    record { calls = x.calls; turns = x.turns; idle = x.idle; begun = x.begun; ended = x.ended; listed = x.listed; val = x.val; seq = x.seq }

pub trace_tells : (r s : Result Trace Reason) → trace_numbers r ≡ trace_numbers s → r ≡ s
unfolding trace_with
trace_tells (Ok t) (Ok u) e = ap (λ x. Ok (trace_with x)) e
trace_tells (Ok t) (Err d) e = absurd (above d (sym (ap (λ x. x.refused) e)))
trace_tells (Err d) (Ok t) e = absurd (above d (ap (λ x. x.refused) e))
trace_tells (Err d) (Err e) q = ap Err (numbers_tell.reasons d e (ap (λ x. x.refused) q) (ap (λ x. x.k) q))
