-- Changes of the book, one after the other, in the definitions and in the row. Assumes nothing.
use mathlib.Core.Path.{◌≡◌, refl, ◌∙◌, sym, ap}
use mathlib.Core.Bool.{Bool, true, false}
use mathlib.Core.List.{List, [], ◌∷◌, ◌++◌}
use Prim.Native.Nat.{ℕ, ◌+◌, ◌<◌}
use lib.ListN.{get_or, set, length-set}
use Rattle.run.specs.declared.Tally.{Tally}
use Rattle.run.specs.declared.Errand.{Errand}
use Rattle.run.specs.Book.{Book, acts, enters, all_enter, call_ends, acts_for}
use Rattle.run.specs.Row.{size_of, start_of, part_of, wrote, book_in, notes_by, on_book, point_count, RowFits, Becomes, HasPlaces}
use Rattle.run.proofs.Written.{written, read}
use Rattle.run.proofs.Points.{within_set}

-- the book with the points and the list of another
abbrev pub with_points : Book → Book → Book
with_points b other =
    record {
      upcoming = b.upcoming;
      latest = b.latest;
      own = b.own;
      result = b.result;
      last = b.last;
      point = other.point;
      list = other.list;
      idle = b.idle;
      begun = b.begun;
      ended = b.ended;
    }

-- points change nothing else
pub enter_all : (turn : ℕ) (js : List ℕ) (b : Book) → with_points b (all_enter turn js b) ≡ all_enter turn js b
unfolding all_enter enters
enter_all turn [] b = refl
enter_all turn (j ∷ js) b = enter_all turn js (enters turn j b)

-- some stations, and then some more
pub enter_more : (turn : ℕ) (xs ys : List ℕ) (b : Book) → all_enter turn (xs ++ ys) b ≡ all_enter turn ys (all_enter turn xs b)
unfolding all_enter
enter_more turn [] ys b = refl
enter_more turn (x ∷ xs) ys b = enter_more turn xs ys (enters turn x b)

pub acts_ended : (rests : Bool) (i c d turns : ℕ) (b : Book) → (acts rests i c d turns b).ended ≡ b.ended
acts_ended true i c d turns b = refl
acts_ended false i c d turns b = refl

-- a change as it stands, under another name, and after another
pub unchanged : {row : List ℕ} {s : Tally} → RowFits row s → Becomes row s (λ b. b) row s
unchanged f = record { notes = refl; fits = f }

pub same_change : {row row' : List ℕ} {s r : Tally} {f g : Book → Book} → ((b : Book) → f b ≡ g b) → Becomes row s f row' r → Becomes row s g row' r
same_change {row} {row'} {s} e a =
    record {
      notes = a.notes ∙ ap (λ b. record { book = b; next = part_of row 8; wait = part_of row 6 }) (e (book_in row s));
      fits = a.fits;
    }

pub and_then : {row row' row'' : List ℕ} {s t u : Tally} {f g : Book → Book} → Becomes row s f row' t → Becomes row' t g row'' u
    → Becomes row s (λ b. g (f b)) row'' u
and_then {g = g} a b = record { notes = b.notes ∙ ap (on_book g) a.notes; fits = b.fits }

pub same_wait : {row row' : List ℕ} {s r : Tally} {f : Book → Book} → Becomes row s f row' r → part_of row' 6 ≡ part_of row 6
same_wait a = ap (λ m. m.wait) a.notes

pub same_ended : {row row' : List ℕ} {s r : Tally} {f : Book → Book} → Becomes row s f row' r → r.ended ≡ (f (book_in row s)).ended
same_ended a = ap (λ m. m.book.ended) a.notes

-- an operation of the errand's call, in the row
module _ (row : List ℕ) (s : Tally) (e : Errand) (turns : ℕ) (f : RowFits row s) (h : HasPlaces e) where
  abbrev i : ℕ
  i = e.station

  abbrev c : ℕ
  c = e.call

  abbrev pub row₁ : List ℕ
  row₁ = set row (0 + c) turns

  one : part_of row₁ ≡ wrote (part_of row) 0 c turns
  unfolding start_of size_of
  one = written row 0 c turns h.call

  abbrev d : ℕ
  d = get_or row₁ (5224 + c) 0

  comes_next : d ≡ get_or (part_of row 8) c 0
  unfolding start_of size_of
  comes_next = sym (read row₁ 8 c h.call) ∙ ap (λ (parts : ℕ → List ℕ). get_or (parts 8) c 0) one

  pub in_call_lem : e.rests ≡ false → Becomes row s (acts_for e turns (part_of row 8)) row₁ s
  in_call_lem q =
      record {
        notes = ap (λ parts. notes_by parts s) one ∙ rw q refl;
        fits = record {
          places = length-set row (0 + c) turns ∙ f.places;
          all = f.all ∙ ap (λ (parts : ℕ → List ℕ). point_count (parts 3)) (sym one);
          within = λ j. rw one (f.within j);
        };
      }

  abbrev row₂ : List ℕ
  row₂ = set row₁ (5191 + i) d

  abbrev pub row₃ : List ℕ
  row₃ = set row₂ (5125 + i) c

  abbrev pub one_begun : Tally
  one_begun = record { idle = s.idle; begun = s.begun + 1; ended = s.ended; listed = s.listed }

  three : part_of row₃ ≡ wrote (wrote (wrote (part_of row) 0 c turns) 7 i d) 5 i c
  unfolding start_of size_of
  three =
      written row₂ 5 i c h.station ∙ ap (λ parts. wrote parts 5 i c) (written row₁ 7 i d h.station ∙ ap (λ parts. wrote parts 7 i d) one)

  pub from_rest : e.rests ≡ true → Becomes row s (acts_for e turns (part_of row 8)) row₃ one_begun
  from_rest q =
      record {
        notes = ap (λ parts. notes_by parts one_begun) three ∙ rw (q, comes_next) refl;
        fits = record {
          places = length-set row₂ (5125 + i) c ∙ length-set row₁ (5191 + i) d ∙ length-set row (0 + c) turns ∙ f.places;
          all = f.all ∙ ap (λ (parts : ℕ → List ℕ). point_count (parts 3)) (sym three);
          within = λ j. rw three (within_set (part_of row 5) i c h.call f.within j);
        };
      }

-- the call ends, in the row
module _ (row : List ℕ) (s : Tally) (turn c result : ℕ) (f : RowFits row s) (h : c < 1025) where
  abbrev pub one_ended : Tally
  one_ended = record { idle = s.idle; begun = s.begun; ended = s.ended + 1; listed = s.listed }

  abbrev pub ended_row : List ℕ
  ended_row = set (set row (1025 + c) result) (2050 + c) turn

  two : part_of ended_row ≡ wrote (wrote (part_of row) 1 c result) 2 c turn
  unfolding start_of size_of
  two = written (set row (1025 + c) result) 2 c turn h ∙ ap (λ parts. wrote parts 2 c turn) (written row 1 c result h)

  pub call_ends_lem : Becomes row s (call_ends turn c result) ended_row one_ended
  call_ends_lem =
      record {
        notes = ap (λ parts. notes_by parts one_ended) two;
        fits = record {
          places = length-set (set row (1025 + c) result) (2050 + c) turn ∙ length-set row (1025 + c) result ∙ f.places;
          all = f.all ∙ ap (λ (parts : ℕ → List ℕ). point_count (parts 3)) (sym two);
          within = λ j. rw two (f.within j);
        };
      }
