-- What every function does with a ledger, which is a lent row with its counts: one record for all their contracts. Assumes nothing.
use Rattle.std.specs.Prelude.{◌≡◌, ⊤, List, ℕ, ◌<◌, Option, None, Some}
use Rattle.std.specs.Borrow.{MutBor}
use Rattle.card.specs.declared.Claim.{Claim}
use Rattle.run.specs.declared.Errand.{Errand}
use Rattle.run.specs.declared.Operation.{Operation}
use Rattle.run.specs.declared.Ledger.{Ledger}
use Rattle.run.specs.Book.{Book}
use Rattle.run.specs.Row.{by_station, next_part, wait_part, part_of, RowFits, Becomes, HasPlaces}
use Rattle.run.specs.Drive.{no_tally}

-- a ledger over this row, with nothing counted
pub record Opens (row : MutBor (List ℕ)) (b : Ledger) : Type 0 where
  pub same : b.row.ghost_name ≡ row.ghost_name
  pub stands : b.row.now ≡ row.now
  pub counts : b.tally ≡ no_tally

abbrev pub Fits : Ledger → Type 0
Fits b = RowFits b.row.now b.tally

-- a turn more of this errand has its place in the ledger, and its counts fit
pub record Takes (b : Ledger) (e : Errand) : Type 0 where
  pub fits : Fits b
  pub places : HasPlaces e
  pub idle : b.tally.idle < 65536
  pub begun : b.tally.begun < 65536
  pub ended : b.tally.ended < 65536

-- the book has changed so, in the same row
pub record Changes (before : Ledger) (change : Book → Book) (after : Ledger) : Type 0 where
  pub same : after.row.ghost_name ≡ before.row.ghost_name
  pub became : Becomes before.row.now before.tally change after.row.now after.tally

-- the calls that come next, and what the stations wait for, as the ledger has them
abbrev pub next_in : Ledger → List ℕ
next_in b = part_of b.row.now next_part

abbrev pub wait_in : Ledger → List ℕ
wait_in b = part_of b.row.now wait_part

-- the station of the claim has its place in the parts
abbrev pub ClaimWithin : Option Claim → Type 0
ClaimWithin None = ⊤
ClaimWithin (Some saw) = saw.pid < by_station

-- and so have those of the bench
pub record Within (o : Operation) : Type 0 where
  pub claim : ClaimWithin o.raise
  pub few : o.n < by_station
