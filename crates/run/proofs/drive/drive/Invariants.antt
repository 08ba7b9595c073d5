-- The loop keeps: the row holds the book of the run so far.
use mathlib.Core.Path.{◌≡◌}
use Rattle.run.specs.Row.{book_in}
use Rattle.run.specs.Drive.{no_tally}
use Rattle.run.proofs.Loop.{Kept, state}
use Rattle.run.proofs.drive.drive.Given as goal

abbrev pub invariant-loop-k : goal.invariant-loop-k
invariant-loop-k l =
    (l.book.row.ghost_name ≡ l.initial.book.row.ghost_name)
    × Kept l.initial.w.bench.n (state l.initial.w.bench 0 (book_in l.initial.book.row.now no_tally)) l.table l.turns l.w.bench l.book.row.now l.book.tally l.k
