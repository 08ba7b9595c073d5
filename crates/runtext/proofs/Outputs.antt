-- What read_run writes of a file, from what printing answers. Assumes nothing.
use mathlib.Core.Path.{◌≡◌, refl, ◌∙◌, sym, ap}
use mathlib.Core.Bool.{false≢true}
use mathlib.Core.List.{List}
use Prim.Native.Nat.{ℕ, ◌≤◌}
use native.Mathlib.Omega.{arith}
use borrow.Author.Tests.{eq-eqb, ne_eqb}
use lib.ListN.{length}
use Rattle.rules.specs.Limits.{turn_limit}
use Rattle.script.specs.Output.{refused_text, output_of, OutputTo, OutputSettled}
use Rattle.script.proofs.Outputs as Outputs
use Rattle.runfile.specs.Reading.{read_of}
use Rattle.runfile.proofs.Bounds.{number_read, k_read}
use Rattle.rules.specs.Reason.{Numbers}
use Rattle.runtext.specs.Text.{file_text, printed, print_of, printed_on, PrintedTo}
use Rattle.runtext.specs.declared.Outcome.{Outcome}
use Rattle.runtext.specs.declared.Outcome.TheVariants.{Text, Refusal}
use Rattle.runtext.specs.Output.{is_refusal, shown, PrintOutput, PrintOutputSettled, PrintOutputWhole}
use Rattle.runtext.proofs.Prints.{length-file-text}

module _ (file out after : List ℕ) (p : Numbers) (w : PrintedTo file out p after) where
  abbrev x : Numbers
  x = print_of file (length out)

  answered : Outputs.Answered (file_text file) (length out) x.refused x.k x.len
  unfolding print_of
  answered =
      Outputs.answered printed (read_of file).refused (read_of file).k (file_text file) (length out)
      (λ a. Outputs.Answered (file_text file) (length out) a.refused a.k a.len) (k_read file) (λ r k len a. a)

  pub k_fits : p.k ≤ turn_limit
  k_fits = rw w.answered answered.few

  -- nothing refused: the text is there
  pub text_there : p.refused ≡ 0 → PrintOutput file out (Text p.len) after
  unfolding printed_on
  text_there z =
      let e : x.refused ≡ 0 = ap (λ (p : Numbers). p.refused) (sym w.answered) ∙ z in
      record { refused = rw (eq-eqb x.refused 0 e) refl; output = rw w.answered (Outputs.text_there answered w.left e) }

  -- refused: the line, as far as the buffer goes
  pub line_there : (p.refused ≡ 0 → ⊥) → {after' : List ℕ} {len : ℕ} → OutputTo (refused_text p.refused p.k) after len after'
      → PrintOutput file out (Refusal len) after'
  unfolding printed_on
  line_there h v =
      let n : x.refused ≡ 0 → ⊥ = λ z. h (ap (λ (p : Numbers). p.refused) w.answered ∙ z) in
      record { refused = rw (ne_eqb x.refused 0 n) refl; output = Outputs.line_there answered w.left n (rw w.answered at v) }

-- which it is and how many bytes are there tell the outcome
same_outcome : (a b : Outcome) → is_refusal a ≡ is_refusal b → shown a ≡ shown b → a ≡ b
same_outcome (Text i) (Text j) e h = ap Text h
same_outcome (Text i) (Refusal j) e h = absurd (false≢true e)
same_outcome (Refusal i) (Text j) e h = absurd (false≢true (sym e))
same_outcome (Refusal i) (Refusal j) e h = ap Refusal h

pub output_is_settled : PrintOutputSettled
unfolding PrintOutputSettled OutputSettled
output_is_settled file out a b c d v w =
    let o = Outputs.outputs_are_settled _ out (shown a) (shown b) c d v.output w.output in
    (same_outcome a b (v.refused ∙ sym w.refused) o.0, o.1)

pub output_is_whole : PrintOutputWhole
unfolding PrintOutputWhole print_of
output_is_whole file room h g =
    let m = number_read file in
    let k = k_read file in
    let both = Outputs.whole_output printed (read_of file).refused (read_of file).k (file_text file) room
    (λ a. (output_of a.refused a.k (file_text file) ≡ output_of (read_of file).refused (read_of file).k (file_text file)) × (length (output_of a.refused a.k (file_text file)) ≤ room))
    (λ z. let l = length-file-text file h z in omega arith) (omega arith) (omega arith) (omega arith) (λ r k len o. o) in
    record { same = both.0; fits = both.1 }
