use Rattle.drafting.proofs.Steps.{by_newline}
use Rattle.drafting.proofs.scanning.step.Goals as goal

pub returns-then-text-i-eq10 : goal.returns-then-text-i-eq10
returns-then-text-i-eq10 c =
    (by_newline _ _ _ _ c.if-text-i-eq10.true _ c.in_ok-draft.ensures _ c.saturating_add-line.ensures, tt)
