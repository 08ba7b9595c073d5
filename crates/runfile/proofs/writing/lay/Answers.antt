use mathlib.Core.Path.{◌≡◌, ◌∙◌, refl, sym, ap}
use mathlib.Core.List.{[]}
use native.Mathlib.Omega.{arith}
use lib.ListN.{length, drop}
use lib.Seq.{sets, drop-length}
use Rattle.octets.proofs.Buffers.{in_front, text_first, all_put}
use Rattle.runfile.proofs.writing.lay.Goals as goal

pub returns : goal.returns
returns c =
    let l = c.loop-i in
    let to = c.args.to.now in
    let from = c.args.from.now in
    let all : l.i ≡ length from = omega (arith, l.invariant.0) in
    let none : drop l.i from ≡ [] = rw all (drop-length from) in
    let laid : sets to 0 from ≡ l.to = l.invariant.1 ∙ ap (λ t. sets l.to l.i t) none in
    let whole : sets to 0 from ≡ from = in_front to from (length from) refl (omega (arith, c.requires)) ∙ all_put (text_first to from from refl) c.requires in
    sym laid ∙ whole
