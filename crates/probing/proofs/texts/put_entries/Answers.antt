use native.Mathlib.Omega.{arith}
use lib.ListN.{get_or}
use Rattle.card.specs.Register.{halves}
use Rattle.script.proofs.Pages.{blank}
use Rattle.probing.specs.Numbers.{entry_numbers, rows}
use Rattle.probing.specs.Text.{spaced}
use Rattle.probing.proofs.Spaced.{row_more}
use Rattle.probing.proofs.texts.put_entries.Goals as goal

pub loop-i-init : goal.loop-i-init
unfolding spaced rows
loop-i-init c = blank _ (omega arith)

pub loop-i-preserved : goal.loop-i-preserved
loop-i-preserved c =
    row_more (λ j. entry_numbers (get_or c.args.a.now j (halves 0 0)) (get_or c.args.r.now j (halves 0 0))) _ c.loop-i.invariant c.put_numbers.ensures
