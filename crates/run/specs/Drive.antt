-- What the run loop assumes, and what it leaves: the run of the definitions, in a row. Assumes nothing.
use Rattle.std.specs.Prelude.{◌≡◌, ◌⊎◌, false, List, ℕ, ◌<◌, ◌≤◌, length, get_or, replicate}
use Rattle.rules.specs.Limits.{call_limit, turn_limit}
use Rattle.runfile.specs.Layout.{records, call_of}
use Rattle.runfile.specs.Reading.{read_of, table_of, turns_of}
use Rattle.bench.specs.declared.Bench.{Bench}
use Rattle.bench.specs.Record.{station_at}
use Rattle.reach.specs.Step.{bad_offer}
use Rattle.run.specs.declared.Tally.{Tally}
use Rattle.run.specs.declared.Drove.{Drove}
use Rattle.run.specs.Calls.{call_after, offer, waits, Linked}
use Rattle.run.specs.Row.{by_station, row_places, head_part, next_part, size_of, part_of, book_in, Notes, notes_in, RowFits}
use Rattle.run.specs.Run.{Run, run_from, run_of}

abbrev pub no_tally : Tally
no_tally = record { idle = 0; begun = 0; ended = 0; listed = 0 }

-- every turn is of a station of the bench, and every call is a good offer
pub record Good (n : ℕ) (table turns : List ℕ) : Type 0 where
  pub turn : (k : ℕ) → k < length turns → (1 ≤ get_or turns k 0) × (get_or turns k 0 ≤ n)
  pub few : length turns ≤ turn_limit
  pub offers : (c : ℕ) → bad_offer (offer table c).kind (offer table c).a (offer table c).b ≡ false
  pub calls : records table ≤ call_limit

-- the notes are those of a run on bench w: the call that is next is the station's own, after each call comes its station's next one, and each station waits as it stands
pub record NotesOf (table : List ℕ) (w : Bench) (m : Notes) : Type 0 where
  pub stations : length w.stations ≡ by_station
  pub mine : (i : ℕ) → i < by_station
      → (get_or m.book.upcoming i 0 ≡ 0) ⊎ (((call_of table (get_or m.book.upcoming i 0)).station ≡ i) × (get_or m.book.upcoming i 0 ≤ records table))
  pub after : (c : ℕ) → 0 < c → c ≤ records table → get_or m.next c 0 ≡ call_after table (call_of table c).station c
  pub waiting : (j : ℕ) → j < by_station → get_or m.wait j 0 ≡ waits (station_at w j)

-- what the loop assumes of a sound bench
pub record Drivable (w : Bench) (table turns row : List ℕ) : Type 0 where
  pub good : Good w.n table turns
  pub fits : RowFits row no_tally
  pub notes : NotesOf table w (notes_in row no_tally)

-- the bench, the counts and the book in the row are those of the run
pub record Driven (w : Bench) (table turns row : List ℕ) (r : Drove) (row' : List ℕ) : Type 0 where
  pub run : record { bench = r.bench; turns = length turns; book = book_in row' r.tally } ≡ run_from table (record { bench = w; turns = 0; book = book_in row no_tally }) turns
  pub fits : RowFits row' r.tally

-- the calls after c are linked, and the other parts are zero
pub record LinkedIn (table row : List ℕ) (c : ℕ) : Type 0 where
  pub places : length row ≡ row_places
  pub zeros : (q : ℕ) → q < head_part → part_of row q ≡ replicate (size_of q) 0
  pub linked : Linked table (part_of row next_part) (part_of row head_part) c

-- the run of a file that reads well
abbrev pub run_of_file : List ℕ → Run
run_of_file file = run_of (read_of file).x (read_of file).n (table_of file) (turns_of file)
