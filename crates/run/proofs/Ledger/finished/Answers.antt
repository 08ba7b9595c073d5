use native.Mathlib.Omega.{arith}
use lib.ListN.{get_or}
use mathlib.Core.Path.{◌≡◌, refl, ◌∙◌, sym, ap}
use mathlib.Core.Bool.{cond}
use mathlib.Core.List.{[], ◌∷◌}
use Rattle.run.specs.Book.{Book, finishes}
use Rattle.run.specs.Row.{part_of, book_in}
use Rattle.run.proofs.Books.{enter_all, acts_ended, same_ended, call_ends_lem}
use Rattle.run.proofs.Ledgers.{then}
use Rattle.run.proofs.Ledger.finished.Goals as goal

-- no more calls have ended than before
pub overflow_add-self-3 : goal.overflow_add-self-3
overflow_add-self-3 c =
    let s = c.args.self.now in
    let e = c.args.e in
    let n = c.acted.new.self in
    let ended_so_far : c.at_once.new.self.tally.ended ≡ s.tally.ended =
    same_ended c.at_once.ensures.became
    ∙ sym (ap (λ (b : Book). b.ended) (enter_all e.turn (cond e.rests (e.station ∷ []) []) (book_in n.row.now n.tally)))
    ∙ same_ended c.acted.ensures.became
    ∙ acts_ended e.rests e.station e.call (get_or (part_of s.row.now 8) e.call 0) c.args.f.own (book_in s.row.now s.tally) in
    omega (arith, ended_so_far, c.requires.ended)

pub returns : goal.returns
unfolding finishes
returns c =
    let e = c.args.e in
    let n = c.at_once.new.self in
    then (then c.acted.ensures c.at_once.ensures)
    (record { same = refl; became = call_ends_lem n.row.now n.tally e.turn e.call c.args.f.result c.at_once.ensures.became.fits c.requires.places.call })
