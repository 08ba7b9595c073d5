-- The loop keeps: the entries so far are written.
use lib.ListN.{get_or}
use Rattle.card.specs.Register.{halves}
use Rattle.script.specs.Page.{Writes}
use Rattle.probing.specs.Numbers.{entry_numbers, rows}
use Rattle.probing.specs.Text.{spaced}
use Rattle.probing.proofs.texts.put_entries.Given as goal

abbrev pub invariant-loop-i : goal.invariant-loop-i
invariant-loop-i l =
    Writes l.initial.page l.page (spaced (rows (λ j. entry_numbers (get_or l.a j (halves 0 0)) (get_or l.r j (halves 0 0))) l.i))
