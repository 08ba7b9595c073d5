-- The promises of texts as run files. Assumes nothing.
use borrow.Author.Rules.{rules}
use mathlib.Core.Path.{◌≡◌, refl, ◌∙◌, sym, ap, subst}
use mathlib.Core.List.{List, ◌++◌}
use Prim.Native.Nat.{ℕ, ◌*◌, ◌≤◌}
use native.Mathlib.Omega.{arith}
use borrow.Author.Tests.{eqb-true, eqb-false, eq-eqb, le-ltb, ltb-false}
use lib.Dec.{eqb, ltb}
use lib.ListN.{length, take, drop}
use lib.Seq.{take_at}
use Rattle.octets.specs.Bytes.{AllBytes}
use Rattle.rules.proofs.Facts.{either_way}
use Rattle.runfile.specs.Reading.{read_of, table_of, turns_of}
use Rattle.runfile.specs.Writing.{write_of, out_of, Written}
use Rattle.runfile.specs.Promise.{Holds, ReadWritesBack, WrittenReadsBack}
use Rattle.runfile.proofs.Trailers.{bytes_part}
use Rattle.runfile.proofs.Trips.{written_reads_back, read_writes_back}
use Rattle.rules.specs.Reason.{Numbers}
use Rattle.runtext.specs.Text.{file_text, print_of, printed_on, PrintedTo}
use Rattle.runtext.proofs.Runs.{held}
use Rattle.drafting.specs.Scan.{no_scan, run}
use Rattle.drafting.specs.Parse.{last_draft, lacking, table_in, turns_in, Parsed, parsed, parsed_numbers, ParsedTo}
use Rattle.drafting.specs.Promise.{TurnedBack, PrintedReadsBack, TextsTellGoodRuns, ParseSettled, NumbersTell}
use Rattle.drafting.proofs.Sane.{tells_good}
use Rattle.drafting.proofs.Parses.{refused, taken}
use Rattle.drafting.proofs.Back.{Tells, tells}

-- two lots of numbers with their buffers that the contract allows for one input are the same
numbers_settled : (text out : List ℕ) (a b : Parsed) (c d : List ℕ) → ParsedTo text out a c → ParsedTo text out b d → (a ≡ b) × (c ≡ d)
numbers_settled text out a b c d v w = (v.answered ∙ sym w.answered, v.left ∙ sym w.left)

numbers_tell : NumbersTell
numbers_tell = search rules

pub answer_is_settled : ParseSettled
answer_is_settled =
    record {
      by_numbers = numbers_settled;
      answers =
          λ text out r s c d v w. let e = numbers_settled text out (parsed_numbers r) (parsed_numbers s) c d v w in (numbers_tell.answers r s e.0, e.1);
    }

-- what the writer does with a run
by_writer : (x n : ℕ) (table turns out : List ℕ) → Written x n table turns out (write_of n table turns (length out)) (out_of x n table turns out)
by_writer x n table turns out = record { answered = refl; left = refl }

-- what parsing hands back of a text that can be read is what the writer makes of what the text tells
pub record ByWriter (text out : List ℕ) (answer : Parsed) (after : List ℕ) (x n : ℕ) (table turns : List ℕ) : Type 0 where
  pub answered : answer ≡ parsed 0 (write_of n table turns (length out)).refused (write_of n table turns (length out)).len
  pub left : after ≡ out_of x n table turns out

retold : {text out after : List ℕ} {answer : Parsed} {x n x' n' : ℕ} {T U T' U' : List ℕ} → ByWriter text out answer after x n T U
    → x ≡ x' → n ≡ n' → T ≡ T' → U ≡ U' → ByWriter text out answer after x' n' T' U'
retold b e f g k = rw (← e, ← f, ← g, ← k) b

module _ (text out after : List ℕ) (answer : Parsed) (p : ParsedTo text out answer after) where
  parsed_by : lacking (last_draft text) ≡ 0 → ByWriter text out answer after (last_draft text).x (last_draft text).n (table_in text) (turns_in text)
  parsed_by h =
      let x = (last_draft text).x in
      let n = (last_draft text).n in
      let w = write_of n (table_in text) (turns_in text) (length out) in
      let o = out_of x n (table_in text) (turns_in text) out in
      let e = numbers_settled text out answer (parsed 0 w.refused w.len) after o p (taken text out h w o (by_writer x n (table_in text) (turns_in text) out)) in
      record { answered = e.0; left = e.1 }

  readable : answer.expected ≡ 0 → lacking (last_draft text) ≡ 0
  readable z =
      let l = lacking (last_draft text) in
      either_way (eqb l 0) (eqb-true l 0)
      (λ f.
      let e = numbers_settled text out answer (parsed (run no_scan text).line l 0) after out p (refused text out (run no_scan text).line l refl refl (eqb-false l 0 f)) in
      sym (ap (λ a. a.expected) e.0) ∙ z)

pub texts_tell_good_runs : TextsTellGoodRuns
unfolding TextsTellGoodRuns WrittenReadsBack
texts_tell_good_runs text out after answer p z =
    let x = (last_draft text).x in
    let n = (last_draft text).n in
    let T = table_in text in
    let U = turns_in text in
    let h = readable text out after answer p z in
    let b = parsed_by text out after answer p h in
    let w = write_of n T U (length out) in
    let none : w.refused ≡ 0 = sym (ap (λ a. a.expected) b.answered) ∙ z in
    subst (λ f. Holds f x n T U) (sym (ap (λ a. take a.len after) b.answered ∙ ap (take w.len) b.left))
    (written_reads_back x n T U out w (out_of x n T U out) (tells_good text h).value (by_writer x n T U out) none)

-- a file that reads well
module _ (file : List ℕ) (h : AllBytes file) (e : (read_of file).refused ≡ 0) where
  told : Tells (file_text file) (read_of file).x (read_of file).n (table_of file) (turns_of file)
  told =
      tells (read_of file).x (read_of file).n (table_of file) (turns_of file)
      (bytes_part file (read_of file).start (12 * (read_of file).q) h) (held file h e)

  back : (out after : List ℕ) (answer : Parsed) → length file ≤ length out → ParsedTo (file_text file) out answer after → TurnedBack file out answer after
  unfolding ReadWritesBack
  back out after answer l p =
      let r = read_of file in
      let T = table_of file in
      let U = turns_of file in
      let t = told in
      let b = parsed_by (file_text file) out after answer p t.all in
      let w = read_writes_back file out (write_of r.n T U (length out)) (out_of r.x r.n T U out) h e l (by_writer r.x r.n T U out) in
      let c = retold b t.value t.stations t.calls t.moves in
      record { answered = c.answered ∙ ap (λ a. parsed 0 a.refused a.len) w.answered; left = c.left ∙ w.left }

-- a page that a file was printed on
module _ (file page page' : List ℕ) (p : Numbers) (w : PrintedTo file page p page') (z : p.refused ≡ 0) where
  abbrev text : List ℕ
  text = file_text file

  number : (print_of file (length page)).refused ≡ 0
  number = sym (ap (λ a. a.refused) w.answered) ∙ z

  reads : (read_of file).refused ≡ 0
  unfolding print_of
  reads =
      let r = (read_of file).refused in
      either_way (eqb r 0) (eqb-true r 0) (λ f. rw f at number)

  room : length (file_text file) ≤ length page
  unfolding print_of
  room =
      let k = rw (eq-eqb (read_of file).refused 0 reads) at number in
      either_way (ltb (length page) (length text)) (λ t. let j = rw t at k in absurd (omega arith)) (ltb-false (length page) (length text))

  on_page : take p.len page' ≡ file_text file
  unfolding print_of printed_on
  on_page =
      let b = eq-eqb (read_of file).refused 0 reads in
      let f = le-ltb (length page) (length text) room in
      let len : p.len ≡ length text = ap (λ a. a.len) w.answered ∙ rw (b, f) in
      let l : page' ≡ text ++ drop (length text) page = w.left ∙ rw (b, f) in
      ap (λ k. take k page') len ∙ ap (take (length text)) l ∙ take_at text (drop (length text) page) (length text) refl

pub printed_reads_back : PrintedReadsBack
unfolding PrintedReadsBack
printed_reads_back file page page' out after p answer h w z l y =
    back file h (reads file page page' p w z) out after answer l (rw (on_page file page page' p w z) at y)
