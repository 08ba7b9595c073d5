-- The bounds are answered by name: tried with `using` on such lemmas of Points, and the search did not close them.
use mathlib.Core.Path.{refl}
use native.Mathlib.Omega.{arith}
use Rattle.run.proofs.Points.{point_in, list_in, not_a_call, has_one, place, entered}
use Rattle.run.proofs.Ledger.enter.Goals as goal

pub returns-then-c-eq0 : goal.returns-then-c-eq0
returns-then-c-eq0 c =
    let b = c.args.self.now in
    record { same = refl; became = not_a_call b.row.now b.tally c.args.j c.args.turn c.requires.0 c.requires.1.0 c.if-c-eq0.true }

pub bounds-self-at : goal.bounds-self-at
bounds-self-at c = point_in c.args.self.now.row.now c.args.self.now.tally c.args.j c.args.turn c.requires.0 c.requires.1.0

pub returns-then-has_point : goal.returns-then-has_point
returns-then-has_point c =
    let b = c.args.self.now in
    record { same = refl; became = has_one b.row.now b.tally c.args.j c.args.turn c.requires.0 c.requires.1.0 c.if-c-eq0.false c.if-has_point.true }

pub bounds-self-at-2 : goal.bounds-self-at-2
bounds-self-at-2 c = point_in c.args.self.now.row.now c.args.self.now.tally c.args.j c.args.turn c.requires.0 c.requires.1.0

pub bounds-self-self : goal.bounds-self-self
bounds-self-self c =
    let b = c.args.self.now in
    list_in b.row.now b.tally c.args.j c.args.turn c.requires.0 c.requires.1.0 c.requires.1.1 c.if-c-eq0.false (omega arith)

pub overflow_add-self-2 : goal.overflow_add-self-2
overflow_add-self-2 c =
    let b = c.args.self.now in
    omega (arith, place b.row.now b.tally c.args.j c.args.turn c.requires.0 c.requires.1.0 c.requires.1.1 c.if-c-eq0.false (omega arith))

pub returns : goal.returns
returns c =
    let b = c.args.self.now in
    record { same = refl; became = entered b.row.now b.tally c.args.j c.args.turn c.requires.0 c.requires.1.0 c.requires.1.1 c.if-c-eq0.false (omega arith) }
