use mathlib.Core.Path.{◌≡◌, ◌∙◌}
use Prim.Native.Nat.{◌+◌, ◌*◌, ◌^◌, ◌<◌, min}
use native.Mathlib.Omega.{arith}
use lib.ListN.{drop, take, length, length-drop, length-take}
use Rattle.std.proofs.Math.Nat.{min_comm}
use Rattle.std.proofs.lemmas.List.{take_min}
use Rattle.octets.proofs.Spelled.{Behind, one_behind, none_behind, bytes_drop, bytes_take, fits_in}
use Rattle.octets.proofs.number.Goals as goal

next : (c : goal.After-from) → Behind (take 8 c.args.part.now) c.next.new.self.iter.rest.now (c.from.result + 256 * c.loop-b.x)
next c = rw (c.from.ensures, c.wide.ensures) (one_behind (take 8 c.args.part.now) c.next.new.self.iter.rest.now c.in-Some.b.now c.loop-b.x (rw c.in-Some.ensures.steps at c.loop-b.invariant))

next_fits : (c : goal.After-from) → c.from.result + 256 * c.loop-b.x < 2 ^ 64
next_fits c =
    let l = take 8 c.args.part.now in
    let i = length c.next.new.self.iter.rest.now in
    let h = bytes_take 8 c.args.part.now (λ i. (c.type_inv.part i).fits) in
    rw (next c).sum (fits_in 8 (drop i l) (bytes_drop i l h) (simp (length-drop, length-take) (omega arith)))

pub loop-b-init : goal.loop-b-init
loop-b-init c =
    let m : c.min.result ≡ min 8 (length c.args.part.now) = c.min.ensures ∙ min_comm (length c.args.part.now) 8 in
    let e : c.into_iter-b-iterator.result.iter.rest.now ≡ take 8 c.args.part.now =
    rw (c.into_iter-b-iterator.ensures.into_iter_gives, c.rev-b-items.ensures.source, c.iter.ensures.rest, m) (take_min 8 c.args.part.now) in
    rw e (none_behind (take 8 c.args.part.now))

pub overflow_mul-x : goal.overflow_mul-x
overflow_mul-x c = record { fits = omega (arith, next_fits c) }

pub overflow_add-x : goal.overflow_add-x
overflow_add-x c = record { fits = next_fits c }

pub loop-b-preserved : goal.loop-b-preserved
loop-b-preserved c = next c
