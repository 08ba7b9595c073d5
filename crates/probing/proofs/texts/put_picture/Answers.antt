use mathlib.Core.Path.{refl}
use Rattle.std.proofs.Common.{arith, length-take}
use Rattle.probing.proofs.Cases.{drew, refused}
use Rattle.probing.proofs.texts.put_picture.Goals as goal

pub slice_bounds-drawn-end : goal.slice_bounds-drawn-end
slice_bounds-drawn-end c = (drew c.args.w _ _ c.picture.result refl c.picture.ensures c.in-Ok.len c.in-Ok.is).fits

pub slice_bounds-put_drawn-end : goal.slice_bounds-put_drawn-end
slice_bounds-put_drawn-end c =
    omega (arith, length-take c.in-Ok.len c.picture.new.out, (drew c.args.w _ _ c.picture.result refl c.picture.ensures c.in-Ok.len c.in-Ok.is).fits)

pub returns-in-Ok : goal.returns-in-Ok
returns-in-Ok c = rw (drew c.args.w _ _ c.picture.result refl c.picture.ensures c.in-Ok.len c.in-Ok.is).told c.put_drawn.ensures

pub returns-in-Err : goal.returns-in-Err
returns-in-Err c =
    rw (refused c.args.w _ _ c.picture.result refl c.picture.ensures c.in-Err.reason c.in-Err.is, ← c.number.ensures) c.put_refused.ensures
