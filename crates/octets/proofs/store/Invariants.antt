-- The loop keeps: the places filled so far, and the bytes still to come, are the bytes of x.
use mathlib.Core.Path.{◌≡◌}
use lib.ListN.{length}
use Rattle.octets.specs.Bytes.{bytes}
use Rattle.octets.proofs.Bytes.{filled}
use Rattle.octets.proofs.store.Given as goal

abbrev pub invariant-loop-b : goal.invariant-loop-b
invariant-loop-b l = bytes (length l.initial.out) l.x ≡ filled (length l.initial.out) l.out l.b-index l.y
