-- A text byte by byte: where words and lines end, and what the words say so far. Assumes nothing.
use Rattle.std.specs.Prelude.{Bool, true, false, cond, ◌||◌, List, [], ◌∷◌, ◌++◌, ℕ, ◌+◌, eqb}
use Rattle.script.specs.Wrote.{cut}
use Rattle.drafting.specs.Draft.{Drafted, no_draft, said, took_at, ended_at}

-- the line from 1, whether the rest of it is a comment, the bytes of the word so far, and what was said before it
pub record Scanned : Type 0 where
  pub line : ℕ
  pub comment : Bool
  pub word : List ℕ
  pub draft : Drafted

abbrev pub scan : ℕ → Bool → List ℕ → Drafted → Scanned
scan line comment word draft = record { line = line; comment = comment; word = word; draft = draft }

abbrev pub no_scan : Scanned
no_scan = scan 1 false [] no_draft

unfoldable pub empty : List ℕ → Bool
empty [] = true
empty (b ∷ bs) = false

-- the word so far, if there is one, is taken
unfoldable pub word_ended : Scanned → Drafted
word_ended s = cond (empty s.word) s.draft (took_at s.draft.stage s.draft (said s.word))

-- and the line ends, unless the word was refused
abbrev pub ended : Drafted → Drafted
ended d = cond (eqb d.expected 0) (ended_at d.stage d) d

unfoldable pub line_ended : Scanned → Drafted
line_ended s = ended (word_ended s)

-- lines are counted from 1, up to the one that is refused
abbrev pub next_line : ℕ → Drafted → ℕ
next_line line d = cond (eqb d.expected 0) (cut (line + 1)) line

-- space, tab, carriage return
abbrev pub is_blank : ℕ → Bool
is_blank b = eqb b 32 || (eqb b 9 || eqb b 13)

unfoldable pub step_on : Scanned → ℕ → Scanned
step_on s b =
    cond (eqb b 10) (scan (next_line s.line (line_ended s)) false [] (line_ended s))
    (cond s.comment s
    (cond (eqb b 35) (scan s.line true [] (word_ended s))
    (cond (is_blank b) (scan s.line false [] (word_ended s)) (scan s.line false (s.word ++ (b ∷ [])) s.draft))))

-- a byte more; past a refusal nothing changes
unfoldable pub step : Scanned → ℕ → Scanned
step s b = cond (eqb s.draft.expected 0) (step_on s b) s

unfoldable pub run : Scanned → List ℕ → Scanned
run s [] = s
run s (b ∷ bs) = run (step s b) bs

-- what the drafts add, from one byte of the text to the next
unfoldable pub given : (Drafted → Drafted → List ℕ) → Scanned → List ℕ → List ℕ
given made s [] = []
given made s (b ∷ bs) = made s.draft (step s b).draft ++ given made (step s b) bs
