-- The loop keeps: x is what the bytes behind those left, of the first eight, spell.
use lib.ListN.{take}
use Rattle.octets.proofs.Spelled.{Behind}
use Rattle.octets.proofs.number.Given as goal

abbrev pub invariant-loop-b : goal.invariant-loop-b
invariant-loop-b l = Behind (take 8 l.part) l.b-iterator.iter.rest.now l.x
