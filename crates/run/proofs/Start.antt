-- A run's start: a fresh bench and a linked row are what the loop assumes, and the book in the row is empty. Assumes nothing.
use mathlib.Core.Path.{◌≡◌, refl, ◌∙◌, sym, ap}
use mathlib.Core.Bool.{true}
use mathlib.Core.List.{List, []}
use Prim.Native.Nat.{ℕ, zero, suc, ◌<◌, ◌≤◌}
use native.Mathlib.Omega.{arith}
use borrow.Author.Tests.{le-ltb, ne_eqb}
use native.Mathlib.Decide.{dec_le}
use lib.ListN.{length, get_or, replicate, get_or-replicate, length-append, get_or-append}
use lib.Seq.{ext_get_or, get_or_at}
use Rattle.method.specs.Record.{resting}
use Rattle.bench.specs.declared.Bench.{Bench}
use Rattle.bench.specs.Record.{blank}
use Rattle.bench.specs.Sound.{sound}
use Rattle.bench.specs.Turn.{fresh_of}
use Rattle.bench.proofs.Promised.{kept_sound}
use Rattle.runfile.specs.Reading.{read_of, table_of, turns_of}
use Rattle.run.specs.Calls.{call_after, waits}
use Rattle.run.specs.Row.{by_station, size_of, part_of, book_in, notes_in, point_count, RowFits}
use Rattle.run.specs.Run.{first_calls, empty_book, run_from}
use Rattle.run.specs.declared.Drove.{Drove}
use Rattle.run.specs.Drive.{no_tally, NotesOf, Drivable, Driven, LinkedIn, run_of_file}
use Rattle.run.proofs.Written.{long}
use Rattle.run.proofs.Steps.{mine_after}
use Rattle.run.proofs.Files.{reads_well}
use Rattle.run.proofs.Loop.{state}

none_pointed : (k : ℕ) → point_count (replicate k 0) ≡ 0
unfolding point_count
none_pointed zero = refl
none_pointed (suc k) = omega (arith, none_pointed k)

-- zeros are zero wherever they are read
all_zero : (k i : ℕ) → ◌≡◌ {A = ℕ} (get_or (replicate k 0) i 0) 0
all_zero zero i = refl
all_zero (suc k) zero = refl
all_zero (suc k) (suc i) = all_zero k i

-- the row of first calls
pub how_many : (table : List ℕ) (k : ℕ) → length (first_calls table k) ≡ k
unfolding first_calls
how_many table zero = refl
how_many table (suc k) = length-append (first_calls table k) _ ∙ omega (arith, how_many table k)

pub first_call_lem : (table : List ℕ) (k i : ℕ) → i < k → get_or (first_calls table k) i 0 ≡ call_after table i 0
unfolding first_calls
first_call_lem table zero i h = absurd (omega arith)
first_call_lem table (suc k) i h =
    elim (dec_le (suc i) k) [
      | yes g ↦ get_or-append (first_calls table k) _ 0 i (omega (arith, g, how_many table k)) ∙ first_call_lem table k i g
      | no g ↦
          let e : i ≡ k = omega arith in
          rw e (get_or_at (first_calls table k) (call_after table k 0) [] 0 k (how_many table k))
    ]

-- a fresh bench of n stations
pub fresh_bench : (x n : ℕ) → 1 ≤ n → n ≤ 32 → fresh_of x n ≡ record { refused = 0; bench = blank x n }
unfolding fresh_of
fresh_bench x n some few = rw (ne_eqb n 0 (λ q. omega arith), le-ltb 32 n few) refl

module _ (file row : List ℕ) (well : (read_of file).refused ≡ 0) (linked : LinkedIn (table_of file) row 0) where
  abbrev w : Bench
  w = blank (read_of file).x (read_of file).n

  zero_at : (q i : ℕ) → q < 7 → get_or (part_of row q) i 0 ≡ 0
  zero_at q i h = ap (λ l. get_or l i 0) (linked.zeros q h) ∙ all_zero (size_of q) i

  fits : RowFits row no_tally
  fits = record {
    places = linked.places;
    all = sym (ap point_count (linked.zeros 3 (omega arith)) ∙ none_pointed (size_of 3));
    within = λ j.
        let z = zero_at 5 j (omega arith) in
        omega arith;
  }

  notes : NotesOf (table_of file) w (notes_in row no_tally)
  notes = record {
    stations = refl;
    mine = λ i h. rw (linked.linked.first i h) (mine_after (table_of file) i 0);
    after = linked.linked.after;
    waiting = λ j h. zero_at 6 j (omega arith) ∙ sym (ap waits (get_or-replicate 33 j (resting 0) (resting 0) h));
  }

  pub is_fresh : fresh_of (read_of file).x (read_of file).n ≡ record { refused = 0; bench = w }
  is_fresh = fresh_bench (read_of file).x (read_of file).n (reads_well file well).some (reads_well file well).few

  -- a fresh bench is sound
  pub is_sound : sound w ≡ true
  is_sound = ap (λ m. sound m.bench) (sym is_fresh) ∙ kept_sound.fresh (read_of file).x (read_of file).n (ap (λ m. m.refused) is_fresh)

  from_here : Drivable w (table_of file) (turns_of file) row
  from_here = record {
    good = (reads_well file well).good;
    fits = fits;
    notes = notes;
  }

  heads : part_of row 7 ≡ first_calls (table_of file) by_station
  unfolding size_of
  heads =
      let l = long row 7 linked.places (omega arith) in
      ext_get_or 0 (part_of row 7) (first_calls (table_of file) 33) (l ∙ sym (how_many (table_of file) 33))
      (λ i g.
      let b : i < 33 = omega (arith, l) in
      linked.linked.first i b ∙ sym (first_call_lem (table_of file) 33 i b))

  empty : book_in row no_tally ≡ empty_book (table_of file)
  unfolding size_of
  empty =
      λ i. record {
        upcoming = heads i;
        latest = linked.zeros 5 (omega arith) i;
        own = linked.zeros 0 (omega arith) i;
        result = linked.zeros 1 (omega arith) i;
        last = linked.zeros 2 (omega arith) i;
        point = linked.zeros 3 (omega arith) i;
        list = [];
        idle = 0;
        begun = 0;
        ended = 0;
      }

  -- of the bench and the parts that the run was given
  module _ (w' : Bench) (table turns : List ℕ) (same : w' ≡ w) (calls : table ≡ table_of file) (moves : turns ≡ turns_of file) where
    pub starts : Drivable w' table turns row
    starts = rw (same, calls, moves) from_here

    -- what the loop leaves is the file's run
    pub ran_through : (r : Drove) (row' : List ℕ) → Driven w' table turns row r row' → state r.bench (length (turns_of file)) (book_in row' r.tally) ≡ run_of_file file
    ran_through r row' d =
        (rw (same, calls, moves) at d).run ∙ ap (λ b. run_from (table_of file) (state w 0 b) (turns_of file)) empty
        ∙ ap (λ m. run_from (table_of file) (state m.bench 0 (empty_book (table_of file))) (turns_of file)) (sym is_fresh)
