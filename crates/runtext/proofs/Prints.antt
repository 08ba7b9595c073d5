-- What printing answers and leaves in the buffer, from what was read. Assumes nothing.
use mathlib.Core.Path.{◌≡◌, ◌∙◌, sym, ap}
use mathlib.Core.List.{List}
use Prim.Native.Nat.{ℕ, ◌*◌, ◌<◌, ◌≤◌}
use native.Mathlib.Omega.{arith}
use borrow.Author.Tests.{eq-eqb, ne_eqb, lt-ltb, le-ltb}
use lib.ListN.{length}
use Rattle.octets.specs.Bytes.{AllBytes}
use Rattle.script.specs.Wrote.{Wrote}
use Rattle.script.proofs.Writes.{size, in_front}
use Rattle.runfile.specs.Reading.{ReadAnswer}
use Rattle.runfile.specs.Reading.{read_of, table_of, turns_of}
use Rattle.runfile.proofs.Trailers.{bytes_part}
use Rattle.runtext.specs.Text.{text_of, file_text, printed, print_of, printed_on, PrintedTo}
use Rattle.runtext.proofs.Runs.{held}
use Rattle.runtext.proofs.Lengths.{length-text}

-- the text of any file that reads well
pub length-file-text : (file : List ℕ) → AllBytes file → (read_of file).refused ≡ 0 → length (file_text file) ≤ 153635
length-file-text file h e =
    length-text (read_of file).x (read_of file).n (table_of file) (turns_of file)
    (bytes_part file (read_of file).start (12 * (read_of file).q) h) (held file h e)

module _ (file out : List ℕ) (r : ReadAnswer) (e : r ≡ read_of file) where
  pub refused : (r.refused ≡ 0 → ⊥) → PrintedTo file out (printed r.refused r.k 0) out
  unfolding print_of printed_on
  refused h =
      let b = ne_eqb r.refused 0 h in
      record { answered = simp (sym e, b); left = simp (sym e, b, b) }

  -- what is written of the table and the turns that were handed out is the file's text
  module _ (h : AllBytes file) (z : r.refused ≡ 0) (table turns : List ℕ) (f : table ≡ table_of file) (g : turns ≡ turns_of file) where
    same_text : text_of r.x r.n table turns ≡ file_text file
    same_text = rw (e, f, g)

    none : (read_of file).refused ≡ 0
    none = sym (ap (λ a. a.refused) e) ∙ z

    measured : {a b : List ℕ} {j : ℕ} → Wrote a b 0 j (text_of r.x r.n table turns) → j ≡ length (file_text file)
    measured w = let l = length-file-text file h none in size (rw same_text at w) (omega arith)

    pub short : {a b : List ℕ} {j : ℕ} → Wrote a b 0 j (text_of r.x r.n table turns) → length out < j → PrintedTo file out (printed 14 0 0) out
    unfolding print_of printed_on
    short w l =
        let b = eq-eqb (read_of file).refused 0 none in
        let m = measured w in
        let k = lt-ltb (length out) (length (file_text file)) (omega arith) in
        record { answered = simp (b, k); left = simp (b, k) }

    pub written : {a b after : List ℕ} {j k : ℕ} → Wrote a b 0 j (text_of r.x r.n table turns) → j ≤ length out
        → Wrote out after 0 k (text_of r.x r.n table turns) → PrintedTo file out (printed 0 0 j) after
    unfolding print_of printed_on
    written w l v =
        let b = eq-eqb (read_of file).refused 0 none in
        let m = measured w in
        let h : length (file_text file) ≤ length out = omega arith in
        let k = le-ltb (length out) (length (file_text file)) h in
        record { answered = simp (b, k, m); left = simp (b, k) (in_front (rw same_text at v) h) }
