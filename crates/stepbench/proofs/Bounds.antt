-- The answers are small numbers, as the header states them. Assumes nothing.
use mathlib.Core.Path.{◌≡◌, refl}
use mathlib.Core.List.{List}
use Prim.Native.Nat.{ℕ, ◌^◌, ◌<◌, ◌≤◌}
use native.Mathlib.Omega.{arith}
use borrow.Author.Tests.{eqb-true, eqb-false}
use lib.Dec.{eqb, ltb}
use lib.ListN.{length}
use Rattle.octets.specs.Bytes.{AllBytes}
use Rattle.rules.specs.Limits.{turn_limit}
use Rattle.rules.specs.Row.{verdict_of}
use Rattle.rules.proofs.Facts.{either_way}
use Rattle.runfile.specs.Reading.{read_of}
use Rattle.runfile.specs.Writing.{file_length, write_rows, write_of}
use Rattle.runfile.proofs.Bounds.{small_write, number_read, k_read, no_k_lem}
use Rattle.runfile.proofs.Writes.{accepted, whole_table}
use Rattle.runtext.specs.Text.{file_text, print_of}
use Rattle.runtext.proofs.Prints.{length-file-text}
use Rattle.drafting.specs.Scan.{no_scan, run}
use Rattle.drafting.specs.Parse.{last_draft, lacking, length_in, parse_of}
use Rattle.drafting.proofs.Small.{few, fits}
use Rattle.sheet.specs.Report.{report_text, report_of}
use Rattle.sheet.proofs.Lengths.{length-report}
use Rattle.stepbench.specs.Word.{WordsComeApart}
use Rattle.stepbench.specs.Answer.{last_line, report_room, text_room, file_room, line_told, ComesApart, AnswersComeApart}
use Rattle.stepbench.proofs.Words.{words_come_apart}

-- an answer that refuses nothing, and one that refuses
done : (len mostK room : ℕ) → len ≤ room → room < 2 ^ 32 → ComesApart 0 0 len mostK room
unfolding WordsComeApart
done len mostK room h g =
    record {
      apart = words_come_apart 0 0 len (omega arith) (omega arith) (omega arith);
      number = omega arith;
      which = omega arith;
      bytes = h;
      no_k = λ e. refl;
      no_bytes = λ e. absurd (e refl);
    }

refusing : (n k mostK room : ℕ) → (n ≡ 0 → k ≡ 0) → n ≤ 14 → k ≤ mostK → mostK < 2 ^ 24 → ComesApart n k 0 mostK room
unfolding WordsComeApart
refusing n k mostK room z h g m =
    record {
      apart = words_come_apart n k 0 (omega arith) (omega arith) (omega arith);
      number = h;
      which = g;
      bytes = omega arith;
      no_k = z;
      no_bytes = λ e. refl;
    }

refused_read : (file : List ℕ) (room : ℕ) → ComesApart (read_of file).refused (read_of file).k 0 turn_limit room
refused_read file room =
    refusing (read_of file).refused (read_of file).k turn_limit room (no_k_lem file) (number_read file) (k_read file) (omega arith)

-- a buffer that is too short
short : (mostK room : ℕ) → mostK < 2 ^ 24 → ComesApart 14 0 0 mostK room
short mostK room m = refusing 14 0 mostK room (λ e. refl) (omega arith) (omega arith) m

told_report : (file : List ℕ) (room : ℕ) → AllBytes file
    → ComesApart (report_of file room).refused (report_of file room).k (report_of file room).len turn_limit report_room
unfolding report_of
told_report file room h =
    either_way (eqb (read_of file).refused 0)
    (λ t.
    let l = length-report file h (eqb-true (read_of file).refused 0 t) in
    either_way (ltb room (length (report_text file))) (λ s. rw (t, s) (short turn_limit report_room (omega arith)))
    (λ s. rw (t, s) (done (length (report_text file)) turn_limit report_room (omega arith) (omega arith))))
    (λ f. rw f (refused_read file report_room))

told_print : (file : List ℕ) (room : ℕ) → AllBytes file
    → ComesApart (print_of file room).refused (print_of file room).k (print_of file room).len turn_limit text_room
unfolding print_of
told_print file room h =
    either_way (eqb (read_of file).refused 0)
    (λ t.
    let l = length-file-text file h (eqb-true (read_of file).refused 0 t) in
    either_way (ltb room (length (file_text file))) (λ s. rw (t, s) (short turn_limit text_room (omega arith)))
    (λ s. rw (t, s) (done (length (file_text file)) turn_limit text_room (omega arith) (omega arith))))
    (λ f. rw f (refused_read file text_room))

told_parse : (text : List ℕ) (room : ℕ)
    → ComesApart (parse_of text room).expected (line_told (parse_of text room).line) (parse_of text room).len last_line file_room
unfolding parse_of
told_parse text room =
    let k = lacking (last_draft text) in
    let l = (run no_scan text).line in
    either_way (eqb k 0)
    (λ t.
    either_way (ltb room (length_in text)) (λ s. rw (t, s) (short last_line file_room (omega arith)))
    (λ s. rw (t, s) (done (length_in text) last_line file_room (fits text) (omega arith))))
    (λ f. rw f (refusing k (line_told l) last_line file_room (λ e. absurd (eqb-false k 0 f e)) (omega (arith, few text)) (omega arith) (omega arith)))

told_write : (n : ℕ) (table turns : List ℕ) (room : ℕ)
    → ComesApart (write_of n table turns room).refused (write_of n table turns room).k (write_of n table turns room).len turn_limit file_room
unfolding write_of
told_write n table turns room =
    let v = verdict_of (write_rows n table turns room) in
    either_way (eqb v.refused 0)
    (λ t.
    let a = accepted n table turns room (eqb-true v.refused 0 t) in
    let l = a.limits.calls in
    let m = a.limits.turns in
    rw t (done (file_length table turns) turn_limit file_room (omega (arith, whole_table n table turns room a)) (omega arith)))
    (λ f.
    rw f
    (refusing v.refused v.k turn_limit file_room (λ e. absurd (eqb-false v.refused 0 f e)) (small_write n table turns room).number
    (small_write n table turns room).which (omega arith)))

pub answers_come_apart : AnswersComeApart
answers_come_apart =
    record { report = told_report; print = told_print; parse = told_parse; write = told_write; read = λ file. refused_read file 0 }
