use Rattle.script.proofs.Pages.{then}
use Rattle.lines.specs.Lines.{line_text}
use Rattle.lines.proofs.put_line.Goals as goal

-- said step by step: `search (rules, then)`, which finds the last line, was tried and does not find the fields that are no number
pub returns : goal.returns
unfolding line_text
returns c =
    then (then (then (then (then (then (then c.put_field.ensures c.put_field-2.ensures) c.put_field-3.ensures) (then c.kind.ensures c.put.ensures))
    (then c.put_answer.ensures c.put-2.ensures)) c.put_field-4.ensures) c.decimal.ensures) c.put-3.ensures
