-- The row of numbers that a run is kept in, part by part, and the book that it holds. Assumes nothing.
use Rattle.std.specs.Prelude.{◌≡◌, cond, ◌||◌, List, [], ◌∷◌, ℕ, zero, suc, ◌+◌, ◌*◌, ◌<◌, ltb, eqb, length, get_or, set, take, replicate}
use Rattle.rules.specs.Limits.{station_limit, call_limit}
use Rattle.runfile.specs.Layout.{part}
use Rattle.run.specs.declared.Tally.{Tally}
use Rattle.run.specs.declared.Errand.{Errand}
use Rattle.run.specs.Book.{Book}

-- a part by call has a place for call 0, which is none, and a part by station one for station 0
abbrev pub by_call : ℕ
by_call = call_limit + 1

abbrev pub by_station : ℕ
by_station = station_limit + 1

-- the parts, in their order: what the rooms above read, by call, and what the loop alone uses: the call that each station made last, the V.seq that it waits for, the
-- call that it makes next, and the one that comes after each call
abbrev pub own_part : ℕ
own_part = 0

abbrev pub result_part : ℕ
result_part = 1

abbrev pub last_part : ℕ
last_part = 2

abbrev pub point_part : ℕ
point_part = 3

abbrev pub list_part : ℕ
list_part = 4

abbrev pub latest_part : ℕ
latest_part = 5

abbrev pub wait_part : ℕ
wait_part = 6

abbrev pub head_part : ℕ
head_part = 7

abbrev pub next_part : ℕ
next_part = 8

unfoldable pub size_of : ℕ → ℕ
size_of p = cond (ltb p latest_part || eqb p next_part) by_call by_station

-- each part starts where the one before it ends
unfoldable pub start_of : ℕ → ℕ
start_of zero = 0
start_of (suc p) = start_of p + size_of p

-- the places of all parts
abbrev pub row_places : ℕ
row_places = 6 * by_call + 3 * by_station

unfoldable pub zero_row : List ℕ
zero_row = replicate row_places 0

unfoldable pub part_of : List ℕ → ℕ → List ℕ
part_of row p = part row (start_of p) (size_of p)

-- some parts, of which part p has x at place i
abbrev pub wrote : (ℕ → List ℕ) → ℕ → ℕ → ℕ → ℕ → List ℕ
wrote parts p i x q = cond (eqb q p) (set (parts p) i x) (parts q)

-- the book in some parts, with its counts
abbrev pub book_by : (ℕ → List ℕ) → Tally → Book
book_by parts s =
    record {
      upcoming = parts head_part;
      latest = parts latest_part;
      own = parts own_part;
      result = parts result_part;
      last = parts last_part;
      point = parts point_part;
      list = take s.listed (parts list_part);
      idle = s.idle;
      begun = s.begun;
      ended = s.ended;
    }

abbrev pub book_in : List ℕ → Tally → Book
book_in row s = book_by (part_of row) s

-- all that the loop keeps: the book, the calls that come next, and what the stations wait for
pub record Notes : Type 0 where
  pub book : Book
  pub next : List ℕ
  pub wait : List ℕ

abbrev pub notes_by : (ℕ → List ℕ) → Tally → Notes
notes_by parts s = record { book = book_by parts s; next = parts next_part; wait = parts wait_part }

abbrev pub notes_in : List ℕ → Tally → Notes
notes_in row s = notes_by (part_of row) s

abbrev pub on_book : (Book → Book) → Notes → Notes
on_book f m = record { book = f m.book; next = m.next; wait = m.wait }

-- how many calls have a point
unfoldable pub point_count : List ℕ → ℕ
point_count [] = 0
point_count (p ∷ ps) = cond (eqb p 0) 0 1 + point_count ps

abbrev pub CallsWithin : List ℕ → Type 0
CallsWithin calls = (j : ℕ) → get_or calls j 0 < by_call

-- as many are listed as have a point, so that there is always room for another
pub record RowFits (row : List ℕ) (s : Tally) : Type 0 where
  pub places : length row ≡ row_places
  pub all : s.listed ≡ point_count (part_of row point_part)
  pub within : CallsWithin (part_of row latest_part)

-- the book in a row has changed so, and the rest of the notes has not
pub record Becomes (row : List ℕ) (s : Tally) (change : Book → Book) (row' : List ℕ) (r : Tally) : Type 0 where
  pub notes : notes_in row' r ≡ on_book change (notes_in row s)
  pub fits : RowFits row' r

-- the errand's station and call have their places in the parts, and its turn is none before the first
pub record HasPlaces (e : Errand) : Type 0 where
  pub station : e.station < by_station
  pub call : e.call < by_call
  pub turn : 0 < e.turn
