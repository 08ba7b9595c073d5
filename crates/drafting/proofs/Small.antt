-- What was expected of a text has a number of at most 10, and its file is no longer than the longest, so a buffer of that length is
-- enough. Assumes nothing.
use mathlib.Core.List.{List, [], ◌∷◌}
use Prim.Native.Nat.{ℕ, ◌≤◌}
use native.Mathlib.Omega.{arith}
use borrow.Author.Tests.{le-ltb}
use lib.Dec.{eqb, leb}
use Rattle.rules.specs.Limits.{station_limit, call_limit, turn_limit}
use Rattle.rules.proofs.Facts.{either_way}
use Rattle.script.specs.Kind.{read_word, set_word, swap_word}
use Rattle.runfile.specs.Reading.{longest}
use Rattle.runtext.specs.Letters.{start_word, stations_word, turns_word}
use Rattle.drafting.specs.declared.Stage.{Stage}
use Rattle.drafting.specs.declared.Stage.TheVariants.{Start, StartValue, AfterStart, Stations, Count, AfterCount, Call, Kind, First, Second, AfterCall, Turn}
use Rattle.drafting.specs.Draft.{Drafted, Said, said, is_value, is_from1_to, took_start, took_count, took_station, took_kind, took_first, took_second, took_turn, took_at, made_call, ended_at, lacking_at}
use Rattle.drafting.specs.Scan.{Scanned, no_scan, empty, word_ended, line_ended, is_blank, step_on, step, run}
use Rattle.drafting.specs.Parse.{last_draft, lacking, length_in, parse_of}
use Rattle.drafting.specs.Promise.{ParseEnough}
use Rattle.drafting.proofs.Sane.{by_cond, table_fits, turns_fit}

abbrev Few : Drafted → Type 0
Few d = d.expected ≤ 10

-- a word more
module _ (d : Drafted) (w : Said) (h : Few d) where
  took : (stage : Stage) → Few (took_at stage d w)
  unfolding took_at took_start took_count took_station took_kind took_first took_second took_turn
  took Start = by_cond Few (w.is start_word) (λ _. h) (λ _. omega arith)
  took StartValue = by_cond Few (is_value w) (λ _. h) (λ _. omega arith)
  took AfterStart = omega arith
  took Stations = by_cond Few (w.is stations_word) (λ _. h) (λ _. omega arith)
  took Count = by_cond Few (is_from1_to station_limit w) (λ _. h) (λ _. omega arith)
  took AfterCount = omega arith
  took Call = by_cond Few (w.is turns_word) (λ _. h) (λ _. by_cond Few (is_from1_to d.n w) (λ _. h) (λ _. omega arith))
  took Kind =
      by_cond Few (w.is read_word) (λ _. h)
      (λ _. by_cond Few (w.is set_word) (λ _. h) (λ _. by_cond Few (w.is swap_word) (λ _. h) (λ _. omega arith)))
  took First = by_cond Few (is_value w) (λ _. h) (λ _. omega arith)
  took Second = by_cond Few (is_value w) (λ _. h) (λ _. omega arith)
  took AfterCall = omega arith
  took Turn = by_cond Few (leb turn_limit d.t) (λ _. omega arith) (λ _. by_cond Few (is_from1_to d.n w) (λ _. h) (λ _. omega arith))

-- the end of a line
over : (stage : Stage) (d : Drafted) → Few d → Few (ended_at stage d)
unfolding ended_at made_call
over Start d h = h
over StartValue d h = omega arith
over AfterStart d h = h
over Stations d h = h
over Count d h = omega arith
over AfterCount d h = h
over Call d h = h
over Kind d h = omega arith
over First d h = omega arith
over Second d h = omega arith
over AfterCall d h = by_cond Few (leb call_limit d.q) (λ _. omega arith) (λ _. h)
over Turn d h = h

-- a byte more, and a text
module _ (s : Scanned) (h : Few s.draft) where
  word_over : Few (word_ended s)
  unfolding word_ended
  word_over = by_cond Few (empty s.word) (λ _. h) (λ _. took s.draft (said s.word) h s.draft.stage)

  line_over : Few (line_ended s)
  unfolding line_ended
  line_over = by_cond Few (eqb (word_ended s).expected 0) (λ _. over (word_ended s).stage (word_ended s) word_over) (λ _. word_over)

  abbrev FewIn : Scanned → Type 0
  FewIn s = Few s.draft

  byte_over : (b : ℕ) → Few (step s b).draft
  unfolding step step_on
  byte_over b =
      by_cond FewIn (eqb s.draft.expected 0)
      (λ _.
      by_cond FewIn (eqb b 10) (λ _. line_over)
      (λ _. by_cond FewIn s.comment (λ _. h) (λ _. by_cond FewIn (eqb b 35) (λ _. word_over) (λ _. by_cond FewIn (is_blank b) (λ _. word_over) (λ _. h)))))
      (λ _. h)

all_few : (text : List ℕ) (s : Scanned) → Few s.draft → Few (run s text).draft
unfolding run
all_few [] s h = h
all_few (b ∷ bs) s h = all_few bs (step s b) (byte_over s h b)

lacks_few : (stage : Stage) → lacking_at stage ≤ 10
unfolding lacking_at
lacks_few Start = omega arith
lacks_few StartValue = omega arith
lacks_few AfterStart = omega arith
lacks_few Stations = omega arith
lacks_few Count = omega arith
lacks_few AfterCount = omega arith
lacks_few Call = omega arith
lacks_few Kind = omega arith
lacks_few First = omega arith
lacks_few Second = omega arith
lacks_few AfterCall = omega arith
lacks_few Turn = omega arith

module _ (text : List ℕ) where
  pub few : lacking (last_draft text) ≤ 10
  few =
      let d = last_draft text in
      by_cond (λ k. k ≤ 10) (eqb d.expected 0) (λ _. lacks_few d.stage) (λ _. line_over (run no_scan text) (all_few text no_scan (omega arith)))

  pub fits : length_in text ≤ longest
  fits = omega (arith, table_fits text, turns_fit text)

pub parse_enough : ParseEnough
unfolding ParseEnough parse_of
parse_enough text room h =
    let k = lacking (last_draft text) in
    let l : k ≤ 10 = few text in
    let f = le-ltb room (length_in text) (omega (arith, fits text)) in
    either_way (eqb k 0) (λ t. rw (t, f) (λ e. omega arith)) (λ u. rw u (λ e. omega arith))
