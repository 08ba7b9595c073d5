-- The loop keeps: the number of the bytes so far.
use mathlib.Core.Path.{◌≡◌}
use lib.ListN.{take}
use Rattle.script.specs.Number.{as_number}
use Rattle.drafting.specs.Draft.{number_from}
use Rattle.drafting.proofs.words.number.Given as goal

abbrev pub invariant-loop-b : goal.invariant-loop-b
invariant-loop-b l = l.number ≡ as_number (number_from 0 (take l.b-index l.word))
