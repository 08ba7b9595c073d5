-- The loop keeps: the words of the entries passed so far are drawn.
use mathlib.Core.Path.{◌≡◌}
use lib.Seq.{sets}
use Rattle.picture.specs.Picture.{entry_words, in_bytes}
use Rattle.picture.proofs.put_entries.Given as goal

abbrev pub invariant-loop-i : goal.invariant-loop-i
invariant-loop-i l = l.out ≡ sets l.initial.out l.from (in_bytes (entry_words l.entries l.i))
