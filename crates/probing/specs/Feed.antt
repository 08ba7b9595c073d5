-- docs/PROBE.md: the input byte by byte, what is written after each, and what is written in all. Assumes nothing.
use Rattle.std.specs.Prelude.{◌≡◌, Bool, false, true, cond, ◌&&◌, ◌||◌, List, [], ◌∷◌, ◌++◌, ℕ, ◌+◌, eqb, ltb, set, replicate}
use Rattle.script.specs.Wrote.{Wrote}
use Rattle.script.specs.Number.{no_number, digit_more}
use Rattle.probing.specs.declared.Reading.{Reading}
use Rattle.probing.specs.declared.Probe.{Probe}
use Rattle.probing.specs.declared.Said.{Said}
use Rattle.probing.specs.Numbers.{places_to}
use Rattle.probing.specs.Text.{case_text, fault_text, cut_words, number_words, place_words}

-- a case is 538 numbers
abbrev pub case_size : ℕ
case_size = 538

-- how many of its numbers are whole, whether a word has begun, and the number that the word is so far
abbrev pub reading : ℕ → Bool → ℕ → Reading
reading filled word number = record { filled = filled; word = word; number = number }

abbrev pub no_reading : Reading
no_reading = reading 0 false 0

abbrev pub probe : ℕ → Reading → Probe
probe k s = record { k = k; reading = s }

-- space, newline
abbrev pub is_blank : ℕ → Bool
is_blank b = eqb b 32 || eqb b 10

-- a byte more: a blank ends the word, if there is one, and any other byte belongs to it
unfoldable pub step : Reading → ℕ → Reading
step s b = cond (is_blank b) (cond s.word (reading (s.filled + 1) false 0) s) (reading s.filled true (digit_more s.number b))

-- the row: a word that ends leaves its number there
unfoldable pub stored : Reading → ℕ → List ℕ → List ℕ
stored s b row = cond (is_blank b) (cond s.word (set row s.filled s.number) row) row

-- cases are counted from 1, as far as 32 bits go
abbrev pub k_more : ℕ → ℕ
k_more k = cond (ltb k 4294967295) (k + 1) k

-- what is written of case k as far as it is read: nothing before it is whole
unfoldable pub text_at : ℕ → Reading → List ℕ → List ℕ
text_at k s row =
    cond (ltb s.number no_number)
    (cond (ltb s.filled case_size) [] (cond (places_to row 33) (case_text row) (fault_text k place_words))) (fault_text k number_words)

-- a case that is written is followed by the next; one that can't be read stays as it is
unfoldable pub next_at : ℕ → Reading → List ℕ → Probe
next_at k s row =
    cond (ltb s.number no_number) (cond (ltb s.filled case_size) (probe k s) (cond (places_to row 33) (probe (k_more k) no_reading) (probe k s)))
    (probe k s)

-- nothing is read past a case that can't be
abbrev pub goes_on : Reading → Bool
goes_on s = ltb s.filled case_size && ltb s.number no_number

unfoldable pub fed_probe : Probe → List ℕ → ℕ → Probe
fed_probe p row b = cond (goes_on p.reading) (next_at p.k (step p.reading b) (stored p.reading b row)) p

unfoldable pub fed_row : Probe → List ℕ → ℕ → List ℕ
fed_row p row b = cond (goes_on p.reading) (stored p.reading b row) row

unfoldable pub fed_text : Probe → List ℕ → ℕ → List ℕ
fed_text p row b = cond (goes_on p.reading) (text_at p.k (step p.reading b) (stored p.reading b row)) []

-- the input ends within a case
abbrev pub is_cut : Reading → Bool
is_cut s = ltb 0 s.filled && goes_on s

abbrev pub cut_text : Probe → List ℕ
cut_text p = cond (is_cut p.reading) (fault_text p.k cut_words) []

-- the end of the input ends its last word, as a newline does
unfoldable pub closed_text : Probe → List ℕ → List ℕ
closed_text p row = fed_text p row 10 ++ cut_text (fed_probe p row 10)

-- all that is written, from some byte of the input on
unfoldable pub output_from : Probe → List ℕ → List ℕ → List ℕ
output_from p row [] = closed_text p row
output_from p row (b ∷ bs) = fed_text p row b ++ output_from (fed_probe p row b) (fed_row p row b) bs

unfoldable pub output_of : List ℕ → List ℕ
output_of input = output_from (probe 1 no_reading) (replicate case_size 0) input

-- what is promised of a byte more of the input: how far it is read now, the row, and the text that is written for that byte,
-- from the front of the buffer on
pub record FedTo (p : Probe) (b : ℕ) (row row' out out' : List ℕ) (answer : Said) : Type 0 where
  pub goes : answer.probe ≡ fed_probe p row b
  pub kept : row' ≡ fed_row p row b
  pub written : Wrote out out' 0 answer.len (fed_text p row b)

-- and of its end
pub record ClosedTo (p : Probe) (row row' out out' : List ℕ) (len : ℕ) : Type 0 where
  pub kept : row' ≡ fed_row p row 10
  pub written : Wrote out out' 0 len (closed_text p row)
