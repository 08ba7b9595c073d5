-- How long a report is: a line has 38 bytes at most, the last one 41, all of them 38,953. Assumes nothing.
use mathlib.Core.Path.{◌≡◌}
use mathlib.Core.Bool.{Bool, true, false, not}
use mathlib.Core.List.{List}
use Rattle.std.specs.Prelude.{Option, None, Some, IfSome}
use Rattle.std.specs.Bool.{then_some}
use Prim.Native.Nat.{ℕ, zero, suc, ◌+◌, ◌*◌, ◌^◌, ◌<◌, ◌≤◌}
use native.Mathlib.Omega.{arith}
use lib.Dec.{eqb}
use lib.ListN.{length, get_or, length-append}
use Rattle.octets.specs.Bytes.{AllBytes}
use Rattle.rules.proofs.Facts.{either_way}
use Rattle.script.proofs.Decimals.{length-decimal, length-decimal-32}
use Rattle.script.proofs.Lengths.{length-kind}
use Rattle.runfile.specs.Reading.{read_of, table_of}
use Rattle.run.specs.Run.{Run}
use Rattle.run.specs.Calls.{StationsWithin}
use Rattle.run.specs.Drive.{run_of_file}
use Rattle.run.specs.Trace.{trace_by}
use Rattle.run.proofs.Files.{reads_well}
use Rattle.limits.specs.Small.{Small, SmallNumbers}
use Rattle.limits.proofs.Promised.{small_numbers}
use Rattle.lines.specs.declared.Line.{Line}
use Rattle.lines.specs.Lines.{spaced_number, answered, line_text, line_of, lines_text, last_text, sheet_text}
use Rattle.sheet.specs.Report.{run_text, report_text}

digits : (n k : ℕ) → n < 10 ^ k → 0 < k → length (spaced_number n) ≤ k + 1
digits n k h g = simp length-append (omega (arith, length-decimal n k h g))

length-answer : (kind : ℕ) (answer : Option ℕ) → IfSome answer (λ x. x < 2 ^ 32) → length (answered kind answer) ≤ 10
unfolding answered
length-answer kind None h = omega arith
length-answer kind (Some answer) h =
    either_way (eqb kind 1)
    (λ s. rw s (either_way (eqb answer 0) (λ z. rw z (omega arith)) (λ o. rw o (omega arith))))
    (λ s. rw s (length-decimal-32 answer h))

some_below : (ended : Bool) (x : ℕ) → x < 2 ^ 32 → IfSome (then_some ended x) (λ x. x < 2 ^ 32)
some_below true x h = h
some_below false x h = tt

pub record Short (l : Line) : Type 0 where
  pub place : l.place ≤ 1024
  pub station : l.station ≤ 32
  pub call : l.call ≤ 1024
  pub answer : IfSome l.answer (λ x. x < 2 ^ 32)
  pub own : l.own ≤ 10
  pub point : l.point ≤ 40960

length-line : (l : Line) → Short l → length (line_text l) ≤ 38
unfolding line_text
length-line l s =
    let h1 = digits l.place 4 (omega (arith, s.place)) (omega arith) in
    let h2 = digits l.station 2 (omega (arith, s.station)) (omega arith) in
    let h3 = digits l.call 4 (omega (arith, s.call)) (omega arith) in
    let h4 = length-kind l.kind in
    let h5 = length-answer l.kind l.answer s.answer in
    let h6 = digits l.own 2 (omega (arith, s.own)) (omega arith) in
    let h7 = length-decimal l.point 5 (omega (arith, s.point)) (omega arith) in
    simp length-append (omega (arith, rw length-append at h1, rw length-append at h2, rw length-append at h3, h4, h5, rw length-append at h6, h7))

module _ (calls : ℕ) (table : List ℕ) (r : Run) (small : Small r) (stations : StationsWithin table) where
  short : (i : ℕ) → i < 1024 → Short (line_of table r.book (suc i) (get_or r.book.list i 0))
  short i h =
      let c = get_or r.book.list i 0 in
      record {
        place = omega arith;
        station = omega (arith, stations c);
        call = small.calls i;
        answer = some_below (not (eqb (get_or r.book.last c 0) 0)) (get_or r.book.result c 0) (small.result c);
        own = small.own c;
        point = small.point c;
      }

  length-lines : (i : ℕ) → i ≤ 1024 → length (lines_text table r.book i) ≤ 38 * i
  unfolding lines_text
  length-lines zero h = omega arith
  length-lines (suc i) h = simp length-append (omega (arith, length-lines i (omega arith), length-line _ (short i (omega arith))))

  length_last : length (last_text (trace_by calls r)) ≤ 41
  unfolding last_text
  length_last =
      let h1 = digits r.turns 5 (omega (arith, small.turns)) (omega arith) in
      let h2 = digits r.book.idle 5 (omega (arith, small.idle)) (omega arith) in
      let h3 = digits r.book.begun 5 (omega (arith, small.begun)) (omega arith) in
      let h4 = digits r.book.ended 5 (omega (arith, small.ended)) (omega arith) in
      let h5 = digits r.bench.v.second 10 (omega (arith, small.value)) (omega arith) in
      let h6 = length-decimal r.bench.v.first 5 (omega (arith, small.version)) (omega arith) in
      simp length-append
      (omega (arith, rw length-append at h1, rw length-append at h2, rw length-append at h3, rw length-append at h4, rw length-append at h5, h6))

  length_run : length (run_text calls table r) ≤ 40960
  unfolding sheet_text
  length_run =
      let l = small.listed in
      simp length-append (omega (arith, length-lines (length r.book.list) l, length_last))

pub length-report : (file : List ℕ) → AllBytes file → (read_of file).refused ≡ 0 → length (report_text file) ≤ 40960
unfolding report_text SmallNumbers
length-report file h well = length_run (read_of file).q (table_of file) (run_of_file file) (small_numbers file h well) (reads_well file well).stations
