-- The row after a turn still holds the notes of the run. Assumes nothing.
use mathlib.Core.Path.{◌≡◌, refl, ◌∙◌, sym, ap, subst⁻¹}
use mathlib.Core.Logic.{◌⊎◌, inl, inr, ⊎_elim}
use mathlib.Core.Bool.{Bool, true, false}
use mathlib.Core.List.{List}
use Prim.Native.Nat.{ℕ, ◌+◌, ◌<◌, ◌≤◌}
use native.Mathlib.Omega.{arith}
use native.Mathlib.Decide.{ℕ_discrete}
use lib.ListN.{length, get_or, set, length-set}
use lib.Seq.{get_or-set_same, get_or-set_other}
use Rattle.method.specs.declared.Station.{Station}
use Rattle.method.specs.declared.Answer.{Answer}
use Rattle.method.specs.declared.Answer.TheVariants.{Idle, Going, Ended, Refused}
use Rattle.method.specs.Record.{at_rest, resting}
use Rattle.bench.specs.declared.Bench.{Bench}
use Rattle.bench.specs.Record.{station_at}
use Rattle.bench.specs.Points.{points_in}
use Rattle.runfile.specs.Layout.{records, call_of}
use Rattle.run.specs.declared.Tally.{Tally}
use Rattle.run.specs.Calls.{call_after, waits}
use Rattle.run.specs.Book.{Book, acts, all_enter}
use Rattle.run.specs.Row.{by_station, size_of, start_of, part_of, wrote, book_in, Notes, notes_by, notes_in, point_count, RowFits, Becomes}
use Rattle.run.specs.Run.{noted}
use Rattle.run.specs.Drive.{NotesOf}
use Rattle.run.proofs.Written.{written, long}
use Rattle.run.proofs.Books.{enter_all, acts_ended}
use Rattle.run.proofs.Steps.{mine_after}

-- what a turn of station i leaves of a book, where call d comes next: the row of next calls as it was or with one entry more, and counts with one more at most
record Leaves (i d : ℕ) (b b' : Book) : Type 0 where
  upcoming : (b'.upcoming ≡ b.upcoming) ⊎ (b'.upcoming ≡ set b.upcoming i d)
  idle : b'.idle ≤ b.idle + 1
  begun : b'.begun ≤ b.begun + 1
  ended : b'.ended ≤ b.ended + 1

acts_leaves : (rests : Bool) (i c d turns : ℕ) (b : Book) → Leaves i d b (acts rests i c d turns b)
acts_leaves true i c d turns b = record { upcoming = inr refl; idle = omega arith; begun = omega arith; ended = omega arith }
acts_leaves false i c d turns b = record { upcoming = inl refl; idle = omega arith; begun = omega arith; ended = omega arith }

-- points change neither
enter_leaves : {i d : ℕ} {b b' : Book} (turn : ℕ) (js : List ℕ) → Leaves i d b b' → Leaves i d b (all_enter turn js b')
enter_leaves {i} {d} {b} {b'} turn js l =
    let e = sym (enter_all turn js b') in
    record {
      upcoming = ⊎_elim (λ q. inl (ap (λ z. z.upcoming) e ∙ q)) (λ q. inr (ap (λ z. z.upcoming) e ∙ q)) l.upcoming;
      idle = omega (arith, ap (λ z. z.idle) e, l.idle);
      begun = omega (arith, ap (λ z. z.begun) e, l.begun);
      ended = omega (arith, ap (λ z. z.ended) e, l.ended);
    }

noted_leaves : (table : List ℕ) (w : Bench) (turn i c own : ℕ) (x : Answer) (b : Book) → Leaves i (call_after table i c) b (noted table w turn i c own x b)
unfolding noted
noted_leaves table w turn i c own Idle b = record { upcoming = inl refl; idle = omega arith; begun = omega arith; ended = omega arith }
noted_leaves table w turn i c own Going b =
    enter_leaves turn (points_in w i Going) (acts_leaves (at_rest (station_at w i).place) i c (call_after table i c) own b)
noted_leaves table w turn i c own (Ended result took) b =
    let rests = at_rest (station_at w i).place in
    let js = points_in w i (Ended result took) in
    let a = acts rests i c (call_after table i c) took b in
    let l = enter_leaves turn js (acts_leaves rests i c (call_after table i c) took b) in
    record {
      upcoming = l.upcoming;
      idle = l.idle;
      begun = l.begun;
      ended = omega (arith, sym (ap (λ z. z.ended) (enter_all turn js a)), acts_ended rests i c (call_after table i c) took b);
    }
noted_leaves table w turn i c own (Refused number) b = record { upcoming = inl refl; idle = omega arith; begun = omega arith; ended = omega arith }

module _ (w w' : Bench) (table row row' : List ℕ) (s s' : Tally) (turn i c turns : ℕ) (x : Answer) (ht : Station)
    (fits : RowFits row s) (notes : NotesOf table w (notes_in row s)) (became : Becomes row s (noted table w turn i c turns x) row' s')
    (stations : w'.stations ≡ set w.stations i ht) (inside : i < by_station) where
  abbrev b : Book
  b = book_in row s

  -- with what the station waits for
  abbrev pub row'' : List ℕ
  row'' = set row' (5158 + i) (waits ht)

  one : part_of row'' ≡ wrote (part_of row') 6 i (waits ht)
  unfolding start_of size_of
  one = written row' 6 i (waits ht) inside

  abbrev m : Notes
  m = record { book = noted table w turn i c turns x b; next = part_of row 8; wait = set (part_of row 6) i (waits ht) }

  pub notes_are : notes_in row'' s' ≡ m
  notes_are =
      ap (λ parts. notes_by parts s') one ∙ ap (λ z. record { book = z.book; next = z.next; wait = set z.wait i (waits ht) }) became.notes

  pub fits_after : RowFits row'' s'
  fits_after = record {
    places = length-set row' (5158 + i) (waits ht) ∙ became.fits.places;
    all = became.fits.all ∙ ap (λ (parts : ℕ → List ℕ). point_count (parts 3)) (sym one);
    within = λ j. rw one (became.fits.within j);
  }

  left : Leaves i (call_after table i c) b (noted table w turn i c turns x b)
  left = noted_leaves table w turn i c turns x b

  Mine : List ℕ → ℕ → Type 0
  Mine l j = (get_or l j 0 ≡ 0) ⊎ (((call_of table (get_or l j 0)).station ≡ j) × (get_or l j 0 ≤ records table))

  mine_still : (j : ℕ) → j < by_station → Mine m.book.upcoming j
  unfolding Mine size_of
  mine_still j h =
      ⊎_elim (λ q. rw q (notes.mine j h))
      (λ q.
      rw q
      (elim (ℕ_discrete j i) [
        | yes e ↦ rw (e, get_or-set_same (part_of row 7) i (call_after table i c) 0 (omega (arith, long row 7 fits.places (omega arith)))) (mine_after table i c)
        | no n ↦ rw (get_or-set_other (part_of row 7) i j (call_after table i c) 0 n) (notes.mine j h)
      ]))
      left.upcoming

  waiting_still : (j : ℕ) → j < by_station → get_or m.wait j 0 ≡ waits (station_at w' j)
  unfolding size_of
  waiting_still j h =
      elim (ℕ_discrete j i) [
        | yes e ↦ rw (e, get_or-set_same (part_of row 6) i (waits ht) 0 (omega (arith, long row 6 fits.places (omega arith))))
            (ap waits (sym (ap (λ l. get_or l i (resting 0)) stations ∙ get_or-set_same w.stations i ht (resting 0) (omega (arith, notes.stations)))))
        | no n ↦ get_or-set_other (part_of row 6) i j (waits ht) 0 n ∙ notes.waiting j h
            ∙ ap waits (sym (ap (λ l. get_or l j (resting 0)) stations ∙ get_or-set_other w.stations i j ht (resting 0) n))
      ]

  pub notes_after : NotesOf table w' (notes_in row'' s')
  unfolding Mine
  notes_after =
      subst⁻¹ (λ z. NotesOf table w' z) notes_are
      (record {
        stations = ap length stations ∙ length-set w.stations i ht ∙ notes.stations;
        mine = mine_still;
        after = notes.after;
        waiting = waiting_still;
      })

  pub counts_after : (s'.idle ≤ s.idle + 1) × (s'.begun ≤ s.begun + 1) × (s'.ended ≤ s.ended + 1)
  counts_after =
      let e = ap (λ z. z.book) became.notes in
      (omega (arith, ap (λ z. z.idle) e, left.idle), omega (arith, ap (λ z. z.begun) e, left.begun), omega (arith, ap (λ z. z.ended) e, left.ended))
