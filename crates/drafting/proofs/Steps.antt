-- A byte more of a scan that the code holds, by what the byte is. Assumes nothing.
use mathlib.Core.Path.{◌≡◌, refl, ◌∙◌, sym}
use mathlib.Core.Bool.{true, false, false≢true}
use mathlib.Core.List.{List, [], ◌∷◌, ◌++◌}
use Prim.Native.Nat.{ℕ, ◌+◌}
use native.Mathlib.Omega.{arith}
use borrow.Author.Tests.{eq-eqb, ne_eqb}
use lib.Dec.{eqb}
use Rattle.std.specs.Prelude.{Result, Ok, Err}
use Rattle.script.specs.Wrote.{cut}
use Rattle.drafting.specs.declared.Expected.{Expected}
use Rattle.drafting.specs.declared.Expected.TheVariants.{Start, Value, LineEnd, Stations, StationCount, StationOrTurns, Kind, Station, FewerCalls, FewerTurns, Room}
use Rattle.drafting.specs.declared.Draft.{Draft}
use Rattle.drafting.specs.declared.Within.{Within}
use Rattle.drafting.specs.declared.Within.TheVariants.{Blank, Comment, Word}
use Rattle.drafting.specs.declared.Scan.{Scan}
use Rattle.drafting.specs.Expected.{expected_number}
use Rattle.drafting.specs.Scan.{Scanned, scan, word_ended, line_ended, is_blank, step_on, step}
use Rattle.drafting.specs.Held.{drafted, in_comment, word_in, scanned, Begun, Between, RefusedAt, Scans}

-- what is expected has a number above 0
pub above : (x : Expected) → expected_number x ≡ 0 → ⊥
above Start h = omega arith
above Value h = omega arith
above LineEnd h = omega arith
above Stations h = omega arith
above StationCount h = omega arith
above StationOrTurns h = omega arith
above Kind h = omega arith
above Station h = omega arith
above FewerCalls h = omega arith
above FewerTurns h = omega arith
above Room h = omega arith

is_comment : (w : Within) → in_comment w ≡ true → w ≡ Comment
is_comment Blank f = absurd (false≢true f)
is_comment Comment f = refl
is_comment (Word start) f = absurd (false≢true f)

module _ (text : List ℕ) (i : ℕ) (s : Scan) (b : ℕ) where
  abbrev t : Scanned
  t = scanned text i s

  pub by_newline : b ≡ 10 → (d : Draft) → line_ended (scanned text i s) ≡ drafted d → (l : ℕ) → l ≡ cut (s.line + 1)
      → step (scanned text i s) b ≡ scan l false [] (drafted d)
  unfolding step step_on
  by_newline e d f l g = rw (eq-eqb b 10 e, f, g)

  pub newline_refused : b ≡ 10 → (x : Expected) → (line_ended (scanned text i s)).expected ≡ expected_number x → RefusedAt (step (scanned text i s) b) s.line x
  unfolding step step_on
  newline_refused e x f =
      let z : eqb (line_ended t).expected 0 ≡ false = ne_eqb (line_ended t).expected 0 (λ z. above x (sym f ∙ z)) in
      rw (eq-eqb b 10 e, z) (refl, (refl, f))

  -- where no word is after it
  no_word : (w : Within) → word_in text (i + 1) w ≡ [] → Begun (i + 1) w → step t b ≡ scan s.line (in_comment w) [] (word_ended t)
      → (r : Result Scan Expected) → Between r s.line w (word_ended t) → Scans text (i + 1) s.line r (step t b)
  no_word w e k f (Ok s') g = rw (f, g.0, g.1.0, e, g.1.1) (refl, k)
  no_word w e k f (Err x) g = rw f (refl, (refl, g))

  module _ (n : b ≡ 10 → ⊥) where
    pub in_a_comment : in_comment s.within ≡ true → (step (scanned text i s) b ≡ scanned text (i + 1) s) × Begun (i + 1) s.within
    unfolding step step_on
    in_a_comment f = rw (is_comment s.within f, ne_eqb b 10 n) (refl, tt)

    module _ (f : in_comment s.within ≡ false) where
      pub by_mark : b ≡ 35 → (r : Result Scan Expected) → Between r s.line Comment (word_ended (scanned text i s)) → Scans text (i + 1) s.line r (step (scanned text i s) b)
      unfolding step step_on
      by_mark e r g = no_word Comment refl tt (rw (ne_eqb b 10 n, f, eq-eqb b 35 e)) r g

      module _ (m : b ≡ 35 → ⊥) where
        pub by_blank : is_blank b ≡ true → (r : Result Scan Expected) → Between r s.line Blank (word_ended (scanned text i s)) → Scans text (i + 1) s.line r (step (scanned text i s) b)
        unfolding step step_on
        by_blank y r g = no_word Blank refl tt (rw (ne_eqb b 10 n, f, ne_eqb b 35 m, y)) r g

        pub by_letter : is_blank b ≡ false → step (scanned text i s) b ≡ scan s.line false (word_in text i s.within ++ (b ∷ [])) (drafted s.draft)
        unfolding step step_on
        by_letter y = rw (ne_eqb b 10 n, f, ne_eqb b 35 m, y)
