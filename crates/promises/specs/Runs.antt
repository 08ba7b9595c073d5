-- Document 01, "Runs to check": those marked P, from the bytes of the file to the whole text of the report. Assumes nothing.
use Rattle.std.specs.Prelude.{◌≡◌, List, [], ◌∷◌, ◌++◌, map, ℕ}
use Rattle.script.specs.Quote.{quote}
use Rattle.card.specs.Promise.{R9}
use Rattle.runfile.specs.Layout.{record_bytes, file_of}
use Rattle.runfile.specs.Reading.{read_of}
use Rattle.sheet.specs.Output.{report_output}

-- a run to check: x, n, the call table, the turns, and the text of its report
pub record Sample : Type 0 where
  pub x : ℕ
  pub n : ℕ
  pub table : List ℕ
  pub turns : List ℕ
  pub text : List ℕ

-- a call's 12 bytes
abbrev pub call : ℕ → ℕ → ℕ → ℕ → List ℕ
call station kind a b = record_bytes (record { station = station; kind = kind; a = a; b = b })

abbrev pub read : ℕ → List ℕ
read station = call station 0 0 0

abbrev pub set : ℕ → ℕ → ℕ → List ℕ
set station a b = call station 1 a b

abbrev pub sample : ℕ → ℕ → List ℕ → List ℕ → List ℕ → Sample
sample x n table turns text = record { x = x; n = n; table = table; turns = turns; text = text }

abbrev pub r1 : Sample
r1 =
    sample 4 2 (set 1 4 5 ++ set 2 4 6 ++ read 2) (1 ∷ 2 ∷ 1 ∷ 2 ∷ 1 ∷ 2 ∷ 1 ∷ 2 ∷ 1 ∷ 2 ∷ 1 ∷ 1 ∷ 1 ∷ 1 ∷ 1 ∷ 2 ∷ 2 ∷ 2 ∷ 2 ∷ 2 ∷ 2 ∷ 1 ∷ [])
    (quote "1 2 2 set true 10 14\n" ++ quote "2 1 1 set false 10 14\n" ++ quote "3 2 3 read 6 1 21\n" ++ quote "22 1 3 3 6 2\n")

abbrev pub r2 : Sample
r2 = sample 7 1 [] [] (quote "0 0 0 0 7 0\n")

abbrev pub r3 : Sample
r3 = sample 7 1 [] (1 ∷ []) (quote "1 1 0 0 7 0\n")

abbrev pub r4 : Sample
r4 = sample 7 1 (set 1 8 9) (1 ∷ []) (quote "1 1 1 set false 1 1\n" ++ quote "1 0 1 1 7 0\n")

abbrev pub r5 : Sample
r5 = sample 7 1 (set 1 7 7) (1 ∷ []) (quote "1 1 1 set true 1 1\n" ++ quote "1 0 1 1 7 0\n")

abbrev pub r6 : Sample
r6 = sample 7 1 (set 1 7 8) (1 ∷ 1 ∷ 1 ∷ 1 ∷ 1 ∷ 1 ∷ 1 ∷ 1 ∷ []) (quote "8 0 1 0 7 0\n")

abbrev pub r7 : Sample
r7 = sample 7 1 (set 1 7 8) (1 ∷ 1 ∷ 1 ∷ 1 ∷ 1 ∷ 1 ∷ 1 ∷ 1 ∷ 1 ∷ []) (quote "1 1 1 set open 9 9\n" ++ quote "9 0 1 0 8 2\n")

abbrev pub r8 : Sample
r8 =
    sample 4 2 (set 1 4 5 ++ set 1 5 6 ++ set 2 4 9) (2 ∷ 2 ∷ 2 ∷ 2 ∷ 1 ∷ 1 ∷ 1 ∷ 1 ∷ 1 ∷ 2 ∷ 2 ∷ 1 ∷ 1 ∷ 1 ∷ 1 ∷ 1 ∷ 1 ∷ 1 ∷ 2 ∷ 2 ∷ [])
    (quote "1 1 1 set true 10 15\n" ++ quote "2 2 3 set false 8 15\n" ++ quote "20 0 3 2 5 2\n")

abbrev pub file : Sample → List ℕ
file s = file_of s.x s.n s.table s.turns

abbrev pub samples : List Sample
samples = r1 ∷ r2 ∷ r3 ∷ r4 ∷ r5 ∷ r6 ∷ r7 ∷ r8 ∷ []

-- of R1 to R8 each file reads well, and the whole output of the report program, in its buffer of 40,960 bytes, is the text; R9 is on a register
pub record RunsToCheck : Type 0 where
  pub good : map (λ s. (read_of (file s)).refused) samples ≡ map (λ s. 0) samples
  pub reports : map (λ s. report_output (file s) 40960) samples ≡ map (λ s. s.text) samples
  pub register : R9
