use mathlib.Core.Path.{refl}
use Rattle.run.proofs.Books.{in_call_lem, from_rest}
use Rattle.run.proofs.Ledger.acted.Goals as goal

pub returns-then-e : goal.returns-then-e
returns-then-e c =
    let b = c.args.self.now in
    record { same = refl; became = from_rest b.row.now b.tally c.args.e c.args.turns c.requires.fits c.requires.places c.if-e.true }

pub returns-else-e : goal.returns-else-e
returns-else-e c =
    let b = c.args.self.now in
    record { same = refl; became = in_call_lem b.row.now b.tally c.args.e c.args.turns c.requires.fits c.requires.places c.if-e.false }
