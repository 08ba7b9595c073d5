use mathlib.Core.Path.{refl}
use native.Mathlib.Omega.{arith}
use Rattle.rules.proofs.Reasons.{above}
use Rattle.script.specs.Output.{refused_text, OutputTo}
use Rattle.runtext.proofs.Outputs.{k_fits, text_there, line_there}
use Rattle.runtext.proofs.showing.output.Goals as goal

pub returns-in-Ok : goal.returns-in-Ok
returns-in-Ok c = text_there c.args.file.now c.args.out.now _ _ c.in-Ok.ensures refl

pub overflow_cast-k : goal.overflow_cast-k
overflow_cast-k c =
    record { fits = omega (arith, k_fits c.args.file.now c.args.out.now _ _ c.in-Err.ensures, c.k.ensures) }

pub returns-in-Err : goal.returns-in-Err
returns-in-Err c =
    let line : OutputTo (refused_text c.number.result c.k.result) c.print.new.out c.told_refusal.result c.told_refusal.new.out = c.told_refusal.ensures in
    line_there c.args.file.now c.args.out.now _ _ c.in-Err.ensures (above c.in-Err.reason) (rw (c.number.ensures, c.k.ensures) at line)
