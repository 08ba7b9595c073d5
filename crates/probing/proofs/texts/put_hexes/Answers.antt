use native.Mathlib.Omega.{arith}
use Rattle.script.proofs.Pages.{then}
use Rattle.probing.specs.Text.{hexes}
use Rattle.probing.proofs.Spaced.{byte_more}
use Rattle.probing.proofs.texts.put_hexes.Goals as goal

pub loop-b-preserved : goal.loop-b-preserved
unfolding hexes
loop-b-preserved c = byte_more c.args.bytes.now _ (omega arith) c.loop-b.invariant (then (rw c.hex_digit.ensures at c.put.ensures) (rw c.hex_digit-in-loop-b.ensures at c.put-in-loop-b.ensures))
