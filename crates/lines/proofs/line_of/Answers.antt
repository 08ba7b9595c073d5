use mathlib.Core.Path.{refl}
use Rattle.run.specs.Row.{start_of, size_of, part_of}
use Rattle.lines.proofs.line_of.Goals as goal

pub returns : goal.returns
unfolding start_of size_of part_of
returns c = λ t. simp (c.call_at-r.ensures, c.then_some.ensures, c.cell-answer.ensures, c.cell.ensures, c.cell-2.ensures, c.cell-3.ensures) refl
