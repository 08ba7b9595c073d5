-- A run's book is read back from its row: its parts by call have their places. Assumes nothing.
use mathlib.Core.Path.{◌≡◌, refl, ◌∙◌, sym, ap}
use mathlib.Core.Bool.{Bool, true, false, cond}
use mathlib.Core.List.{List, [], ◌∷◌, ◌++◌, append_assoc}
use Prim.Native.Nat.{ℕ, ◌+◌, ◌-◌, ◌≤◌}
use lib.ListN.{length, get_or, set, take, drop, replicate, length-set}
use lib.Seq.{take_at, drop_at, take-take, drop-drop}
use Rattle.method.specs.declared.Answer.{Answer}
use Rattle.method.specs.declared.Answer.TheVariants.{Idle, Going, Ended, Refused}
use Rattle.method.specs.Record.{at_rest}
use Rattle.bench.specs.declared.Bench.{Bench}
use Rattle.bench.specs.Record.{station_at}
use Rattle.bench.specs.Points.{points_in}
use Rattle.bench.specs.Promise.{turn_by}
use Rattle.run.specs.Calls.{call_after, call_for}
use Rattle.run.specs.Book.{Book, acts, lacks_point, enters, all_enter, call_ends}
use Rattle.run.specs.Row.{by_call, size_of, start_of, row_places, part_of}
use Rattle.run.specs.Run.{Run, noted, given, step_run, run_from}
use Rattle.run.specs.Drive.{run_of_file}
use Rattle.run.specs.Trace.{row_of}

pub record Long (b : Book) : Type 0 where
  pub own : length b.own ≡ by_call
  pub result : length b.result ≡ by_call
  pub last : length b.last ≡ by_call
  pub point : length b.point ≡ by_call

acts_long : (rests : Bool) (i c d turns : ℕ) (b : Book) → Long b → Long (acts rests i c d turns b)
acts_long true i c d turns b l = record { own = length-set b.own c turns ∙ l.own; result = l.result; last = l.last; point = l.point }
acts_long false i c d turns b l = record { own = length-set b.own c turns ∙ l.own; result = l.result; last = l.last; point = l.point }

as_long : (test : Bool) (point : List ℕ) (c turn : ℕ) → length (cond test (set point c turn) point) ≡ length point
as_long true point c turn = length-set point c turn
as_long false point c turn = refl

all_long : (turn : ℕ) (js : List ℕ) (b : Book) → Long b → Long (all_enter turn js b)
unfolding all_enter enters
all_long turn [] b l = l
all_long turn (j ∷ js) b l =
    let c = get_or b.latest j 0 in
    all_long turn js (enters turn j b) (record { own = l.own; result = l.result; last = l.last; point = as_long (lacks_point c b) b.point c turn ∙ l.point })

ends_long : (turn c result : ℕ) (b : Book) → Long b → Long (call_ends turn c result b)
ends_long turn c result b l =
    record { own = l.own; result = length-set b.result c result ∙ l.result; last = length-set b.last c turn ∙ l.last; point = l.point }

noted_long : (table : List ℕ) (w : Bench) (turn i c own : ℕ) (x : Answer) (b : Book) → Long b → Long (noted table w turn i c own x b)
unfolding noted
noted_long table w turn i c own Idle b l = record { own = l.own; result = l.result; last = l.last; point = l.point }
noted_long table w turn i c own Going b l =
    all_long turn (points_in w i Going) _ (acts_long (at_rest (station_at w i).place) i c (call_after table i c) own b l)
noted_long table w turn i c own (Ended result took) b l =
    ends_long turn c result _ (all_long turn (points_in w i (Ended result took)) _ (acts_long (at_rest (station_at w i).place) i c (call_after table i c) took b l))
noted_long table w turn i c own (Refused number) b l = l

run_long : (table : List ℕ) (s : Run) (is : List ℕ) → Long s.book → Long (run_from table s is).book
unfolding run_from
run_long table s [] l = l
run_long table s (i ∷ is) l =
    let w = s.bench in
    let p = (station_at w i).place in
    let x = turn_by w (given table s i) in
    run_long table (step_run table s i) is
    (noted_long table w (s.turns + 1) i (call_for p (get_or s.book.upcoming i 0) (get_or s.book.latest i 0)) (station_at x.bench i).own x.answer s.book l)

pub file_long : (file : List ℕ) → Long (run_of_file file).book
file_long file = run_long _ _ _ (record { own = refl; result = refl; last = refl; point = refl })

-- the parts of a book's row, with anything after it
module _ (b : Book) (l : Long b) (few : length b.list ≤ by_call) (rest : List ℕ) where
  abbrev zeros : List ℕ
  zeros = replicate (row_places - (start_of 4 + length b.list)) 0

  abbrev after4 : List ℕ
  after4 = b.list ++ (zeros ++ rest)

  abbrev after3 : List ℕ
  after3 = b.point ++ after4

  abbrev after2 : List ℕ
  after2 = b.last ++ after3

  abbrev after1 : List ℕ
  after1 = b.result ++ after2

  abbrev row : List ℕ
  row = row_of b ++ rest

  in_line_lem : row ≡ b.own ++ after1
  unfolding row_of
  in_line_lem = simp append_assoc

  from1 : drop 1025 row ≡ after1
  from1 = ap (drop 1025) in_line_lem ∙ drop_at b.own after1 1025 l.own

  from2 : drop 2050 row ≡ after2
  from2 = sym (drop-drop 1025 1025 row) ∙ ap (drop 1025) from1 ∙ drop_at b.result after2 1025 l.result

  from3 : drop 3075 row ≡ after3
  from3 = sym (drop-drop 1025 2050 row) ∙ ap (drop 1025) from2 ∙ drop_at b.last after3 1025 l.last

  from4 : drop 4100 row ≡ after4
  from4 = sym (drop-drop 1025 3075 row) ∙ ap (drop 1025) from3 ∙ drop_at b.point after4 1025 l.point

  pub own_back : part_of row 0 ≡ b.own
  unfolding start_of size_of part_of
  own_back = ap (take 1025) in_line_lem ∙ take_at b.own after1 1025 l.own

  pub result_back : part_of row 1 ≡ b.result
  unfolding start_of size_of part_of
  result_back = ap (take 1025) from1 ∙ take_at b.result after2 1025 l.result

  pub last_back : part_of row 2 ≡ b.last
  unfolding start_of size_of part_of
  last_back = ap (take 1025) from2 ∙ take_at b.last after3 1025 l.last

  pub point_back : part_of row 3 ≡ b.point
  unfolding start_of size_of part_of
  point_back = ap (take 1025) from3 ∙ take_at b.point after4 1025 l.point

  pub list_back : take (length b.list) (part_of row 4) ≡ b.list
  unfolding start_of size_of part_of
  list_back =
      take-take (length b.list) 1025 (drop 4100 row) few ∙ ap (take (length b.list)) from4 ∙ take_at b.list (zeros ++ rest) (length b.list) refl
