use native.Mathlib.Omega.{arith}
use lib.Seq.{take_all}
use Rattle.octets.proofs.Spelled.{fits_in}
use Rattle.runfile.proofs.layout.field.Goals as goal

-- all of the part is read, and its number fits
pub overflow_cast-result : goal.overflow_cast-result
overflow_cast-result c =
    let s = c.args.part.now in
    record { fits = rw (c.number.ensures, take_all 8 s (omega arith)) (fits_in 4 s (λ i. (c.type_inv.part i).fits) (omega arith)) }
