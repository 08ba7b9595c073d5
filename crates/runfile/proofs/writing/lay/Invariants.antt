-- The loop keeps: what is left of from, laid into the buffer as it is now, gives what the whole of from gives.
use mathlib.Core.Path.{◌≡◌}
use lib.ListN.{length, drop}
use lib.Seq.{sets}
use Rattle.runfile.proofs.writing.lay.Given as goal

abbrev pub invariant-loop-i : goal.invariant-loop-i
invariant-loop-i l = (length l.to ≡ length l.from) × (sets l.initial.to 0 l.from ≡ sets l.to l.i (drop l.i l.from))
