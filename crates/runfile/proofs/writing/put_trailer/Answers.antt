use mathlib.Core.Path.{◌∙◌}
use mathlib.Core.List.{append_assoc}
use native.Mathlib.Omega.{arith}
use Rattle.octets.proofs.Buffers.{nothing_put, number_put, all_put}
use Rattle.runfile.specs.Layout.{trailer_bytes}
use Rattle.runfile.proofs.writing.put_trailer.Goals as goal

pub returns : goal.returns
unfolding trailer_bytes
returns c =
    let z = c.args.z in
    let p1 = number_put (nothing_put c.args.out.now) c.store.new.out 4 (omega arith) z.x (rw c.from.ensures at c.store.ensures) in
    let p2 = number_put p1 c.store-2.new.out 1 (omega arith) z.n (rw c.from-2.ensures at c.store-2.ensures) in
    let p3 = number_put p2 c.store-3.new.out 1 (omega arith) z.form (rw c.from-3.ensures at c.store-3.ensures) in
    let p4 = number_put p3 c.store-4.new.out 2 (omega arith) z.q (rw c.from-4.ensures at c.store-4.ensures) in
    let p5 = number_put p4 c.store-5.new.out 4 (omega arith) z.first (rw c.from-5.ensures at c.store-5.ensures) in
    let p6 = number_put p5 c.store-6.new.out 4 (omega arith) z.second (rw c.from-6.ensures at c.store-6.ensures) in
    all_put p6 c.requires ∙ simp append_assoc
