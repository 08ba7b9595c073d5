-- The promises of a run file as text. Assumes nothing.
use mathlib.Core.Path.{◌∙◌, sym}
use native.Mathlib.Omega.{arith}
use borrow.Author.Tests.{eqb-true, le-ltb}
use lib.Dec.{eqb}
use lib.ListN.{length}
use Rattle.rules.proofs.Reasons.{numbers_tell}
use Rattle.rules.proofs.Facts.{either_way}
use Rattle.runfile.specs.Reading.{read_of}
use Rattle.runtext.specs.Text.{file_text, print_of}
use Rattle.runtext.specs.Promise.{AlwaysEnough, PrintSettled}
use Rattle.runtext.proofs.Prints.{length-file-text}

pub answer_is_settled : PrintSettled
answer_is_settled =
    record {
      by_numbers = λ file out a b c d v w. (v.answered ∙ sym w.answered, v.left ∙ sym w.left);
      answers = λ file out r s c d v w. (numbers_tell.answers r s (v.answered ∙ sym w.answered), v.left ∙ sym w.left);
    }

pub buffer_is_enough : AlwaysEnough
unfolding AlwaysEnough print_of
buffer_is_enough file room h l =
    either_way (eqb (read_of file).refused 0)
    (λ t.
    let e = eqb-true (read_of file).refused 0 t in
    let k = length-file-text file h e in
    rw (t, le-ltb room (length (file_text file)) (omega arith)) (sym e))
    (λ f. rw f)
