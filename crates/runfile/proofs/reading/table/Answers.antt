use native.Mathlib.Omega.{arith}
use Rattle.runfile.proofs.Answers.{table_fits}
use Rattle.runfile.proofs.reading.table.Goals as goal

pub overflow_mul-r : goal.overflow_mul-r
overflow_mul-r c = omega (arith, table_fits c.args.file.now c.in-Ok.r (rw c.in-Ok.is at c.read.ensures))
