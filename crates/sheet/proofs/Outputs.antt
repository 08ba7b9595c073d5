-- What the program report writes of a file, from what the report answers. Assumes nothing.
use mathlib.Core.Path.{◌≡◌, ◌∙◌, sym, ap}
use mathlib.Core.List.{List}
use Prim.Native.Nat.{ℕ, ◌≤◌}
use native.Mathlib.Omega.{arith}
use lib.ListN.{length}
use Rattle.rules.specs.Limits.{turn_limit}
use Rattle.script.specs.Output.{refused_text, output_of, OutputTo}
use Rattle.script.proofs.Outputs as Outputs
use Rattle.runfile.specs.Reading.{read_of}
use Rattle.runfile.proofs.Bounds.{number_read, k_read}
use Rattle.rules.specs.Reason.{Numbers}
use Rattle.sheet.specs.Report.{report_text, reported, report_of, reported_on, ReportedTo}
use Rattle.sheet.specs.Output.{report_output, ReportOutputWhole}
use Rattle.sheet.proofs.Lengths.{length-report}

module _ (file out after : List ℕ) (p : Numbers) (w : ReportedTo file out p after) where
  abbrev x : Numbers
  x = report_of file (length out)

  answered : Outputs.Answered (report_text file) (length out) x.refused x.k x.len
  unfolding report_of
  answered =
      Outputs.answered reported (read_of file).refused (read_of file).k (report_text file) (length out)
      (λ a. Outputs.Answered (report_text file) (length out) a.refused a.k a.len) (k_read file) (λ r k len a. a)

  pub k_fits : p.k ≤ turn_limit
  k_fits = rw w.answered answered.few

  -- nothing refused: the text is there
  pub text_there : p.refused ≡ 0 → OutputTo (report_output file (length out)) out p.len after
  unfolding reported_on
  text_there z = rw w.answered (Outputs.text_there answered w.left (ap (λ (p : Numbers). p.refused) (sym w.answered) ∙ z))

  -- refused: the line, as far as the buffer goes
  pub line_there : (p.refused ≡ 0 → ⊥) → {after' : List ℕ} {len : ℕ} → OutputTo (refused_text p.refused p.k) after len after'
      → OutputTo (report_output file (length out)) out len after'
  unfolding reported_on
  line_there h v = Outputs.line_there answered w.left (λ z. h (ap (λ (p : Numbers). p.refused) w.answered ∙ z)) (rw w.answered at v)

pub output_is_whole : ReportOutputWhole
unfolding ReportOutputWhole report_of
output_is_whole file room h g =
    let m = number_read file in
    let k = k_read file in
    let both = Outputs.whole_output reported (read_of file).refused (read_of file).k (report_text file) room
    (λ a. (output_of a.refused a.k (report_text file) ≡ output_of (read_of file).refused (read_of file).k (report_text file)) × (length (output_of a.refused a.k (report_text file)) ≤ room))
    (λ z. let l = length-report file h z in omega arith) (omega arith) (omega arith) (omega arith) (λ r k len o. o) in
    record { same = both.0; fits = both.1 }
