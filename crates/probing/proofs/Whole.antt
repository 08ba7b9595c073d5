-- A case that is written out is read as it was written: digit by digit, number by number, to its whole row. Assumes nothing.
use mathlib.Core.Path.{◌≡◌, refl, ◌∙◌, sym, ap}
use mathlib.Core.Bool.{Bool, true, false}
use mathlib.Core.List.{List, [], ◌∷◌, ◌++◌, append_assoc, append-nil}
use Prim.Native.Nat.{ℕ, suc, ◌+◌, ◌*◌, ◌-◌, ◌/◌, ◌%◌, ◌<◌, ◌≤◌}
use native.Mathlib.Omega.{arith}
use native.Mathlib.Nat.{add-zero}
use native.Mathlib.Numerals.{add-one}
use borrow.Author.Tests.{lt-ltb, le-leb, ne_eqb}
use lib.ListN.{length, get_or, set, drop, drop_of_length-le, replicate, length-replicate}
use lib.Seq.{sets}
use Rattle.rules.proofs.Facts.{and_both}
use Rattle.octets.proofs.Buffers.{in_front}
use Rattle.script.specs.Number.{no_number}
use Rattle.script.specs.Decimal.{digit, decimal}
use Rattle.script.proofs.Decimals.{by_digits}
use Rattle.probing.specs.declared.Reading.{Reading}
use Rattle.probing.specs.declared.Probe.{Probe}
use Rattle.probing.specs.Numbers.{places_to}
use Rattle.probing.specs.Text.{newline, spaced, in_line, case_text}
use Rattle.probing.specs.Feed.{case_size, reading, no_reading, probe, is_blank, step, stored, k_more, text_at, next_at, goes_on, fed_probe, fed_row, fed_text, closed_text, output_from, output_of}
use Rattle.probing.specs.Promise.{GoodCase, AllGood, input, answers, CasesAreRead}

-- from one state to another, over a text, with what is written on the way
record Goes (p : Probe) (row text said : List ℕ) (p' : Probe) (row' : List ℕ) : Type 0 where
  on : (rest : List ℕ) → output_from p row (text ++ rest) ≡ said ++ output_from p' row' rest

both : {p p₁ p₂ : Probe} {r r₁ r₂ t t₁ s s₁ : List ℕ} → Goes p r t s p₁ r₁ → Goes p₁ r₁ t₁ s₁ p₂ r₂ → Goes p r (t ++ t₁) (s ++ s₁) p₂ r₂
both {p} {p₁} {p₂} {r} {r₁} {r₂} {t} {t₁} {s} {s₁} g h =
    record {
      on = λ rest.
          ap (output_from p r) (append_assoc t t₁ rest) ∙ g.on (t₁ ++ rest) ∙ ap (λ l. s ++ l) (h.on rest) ∙ sym (append_assoc s s₁ (output_from p₂ r₂ rest));
    }

-- one byte
module _ (k : ℕ) (s s' : Reading) (row row' : List ℕ) (b : ℕ) (g : goes_on s ≡ true) (e : step s b ≡ s') (f : stored s b row ≡ row') where
  byte : Goes (probe k s) row (b ∷ []) (text_at k s' row') (next_at k s' row') row'
  unfolding output_from fed_text fed_probe fed_row
  byte = record { on = λ rest. rw (g, e, f) }

  -- that leaves the case as yet not whole
  quiet : s'.filled < case_size → s'.number < no_number → Goes (probe k s) row (b ∷ []) [] (probe k s') row'
  unfolding text_at next_at
  quiet h n = rw (lt-ltb s'.filled case_size h, lt-ltb s'.number no_number n) at byte

below : (s : Reading) → s.filled < case_size → s.number < no_number → goes_on s ≡ true
below s h n = and_both (lt-ltb s.filled case_size h) (lt-ltb s.number no_number n)

module _ (k f : ℕ) (row : List ℕ) (h : f < case_size) where
  digit_goes : (w : Bool) (m d : ℕ) → d < 10 → 10 * m + d < no_number
      → Goes (probe k (reading f w m)) row (digit d ∷ []) [] (probe k (reading f true (10 * m + d))) row
  unfolding step stored
  digit_goes w m d i l =
      let n : m < no_number = omega arith in
      let x : 48 + d - 48 ≡ d = omega arith in
      let a = ne_eqb (48 + d) 32 (λ e. omega arith) in
      let b = ne_eqb (48 + d) 10 (λ e. omega arith) in
      quiet k (reading f w m) (reading f true (10 * m + d)) row row (digit d) (below (reading f w m) h n)
      (rw (a, b, le-leb 48 (48 + d) (omega arith), le-leb (48 + d) 57 (omega arith), lt-ltb m no_number n, x)) (rw (a, b)) h l

  number_goes : (v : ℕ) → v < no_number → Goes (probe k (reading f false 0)) row (decimal v) [] (probe k (reading f true v)) row
  number_goes =
      by_digits (λ v l. v < no_number → Goes (probe k (reading f false 0)) row l [] (probe k (reading f true v)) row)
      (λ v i n. let e : 10 * 0 + v ≡ v = omega arith in rw e at (digit_goes false 0 v i (omega arith)))
      (λ v i p n.
      let e : 10 * (v / 10) + v % 10 ≡ v = omega arith in
      rw e at (both (p (omega arith)) (digit_goes true (v / 10) (v % 10) (omega arith) (omega arith))))

-- a number that is whole, before the last
next_number : (k f v : ℕ) (row : List ℕ) (b : ℕ) → is_blank b ≡ true → f + 1 < case_size → v < no_number
    → Goes (probe k (reading f true v)) row (b ∷ []) [] (probe k (reading (f + 1) false 0)) (set row f v)
unfolding step stored
next_number k f v row b z h n =
    quiet k (reading f true v) (reading (f + 1) false 0) row (set row f v) b (below (reading f true v) (omega arith) n) (rw z) (rw z) h (omega arith)

-- the last
last_number : (k v : ℕ) (row xs : List ℕ) → v < no_number → set row 537 v ≡ xs → places_to xs 33 ≡ true
    → Goes (probe k (reading 537 true v)) row newline (case_text xs) (probe (k_more k) no_reading) xs
unfolding step stored text_at next_at
last_number k v row xs n e g = rw g at (byte k (reading 537 true v) (reading 538 false 0) row xs 10 (below (reading 537 true v) (omega arith) n) refl e)

-- where the word so far is v: the last number of those that follow, and the row when it is reached
abbrev last_of : ℕ → List ℕ → ℕ
last_of v [] = v
last_of v (z ∷ zs) = last_of z zs

abbrev kept : List ℕ → ℕ → ℕ → List ℕ → List ℕ
kept row f v [] = row
kept row f v (z ∷ zs) = kept (set row f v) (f + 1) z zs

numbers_go : (k f v : ℕ) (row zs : List ℕ) → f + length zs < case_size → v < no_number → ((i : ℕ) → get_or zs i 0 < no_number)
    → Goes (probe k (reading f true v)) row (spaced zs) [] (probe k (reading (f + length zs) true (last_of v zs))) (kept row f v zs)
unfolding spaced
numbers_go k f v row [] h n b = rw add-zero (record { on = λ rest. refl })
numbers_go k f v row (z ∷ zs) h n b =
    let e : f + suc (length zs) ≡ f + 1 + length zs = omega arith in
    rw e (both (both (next_number k f v row 32 refl (omega arith) n) (number_goes k (f + 1) (set row f v) (omega arith) z (b 0)))
    (numbers_go k (f + 1) z (set row f v) zs (omega arith) (b 0) (λ i. b (suc i))))

all_kept_lem : (f v : ℕ) (row zs : List ℕ) → set (kept row f v zs) (f + length zs) (last_of v zs) ≡ sets row f (v ∷ zs)
all_kept_lem f v row [] = rw add-zero
all_kept_lem f v row (z ∷ zs) =
    let e : f + suc (length zs) ≡ f + 1 + length zs = omega arith in
    rw (e, all_kept_lem (f + 1) z (set row f v) zs, add-one)

last_below : (v : ℕ) (zs : List ℕ) → v < no_number → ((i : ℕ) → get_or zs i 0 < no_number) → last_of v zs < no_number
last_below v [] n b = n
last_below v (z ∷ zs) n b = last_below z zs (b 0) (λ i. b (suc i))

one_read : (k : ℕ) (row xs rest : List ℕ) → length row ≡ case_size → GoodCase xs
    → output_from (probe k no_reading) row (in_line xs ++ newline ++ rest) ≡ case_text xs ++ output_from (probe (k_more k) no_reading) xs rest
one_read k row [] rest l g = let z = g.size in absurd (omega arith)
one_read k row (x ∷ zs) rest l g =
    let m : length (x ∷ zs) ≡ case_size = g.size in
    let b = g.numbers in
    let e : 0 + length zs ≡ 537 = omega arith in
    let a : length row ≤ case_size = omega arith in
    let d : drop case_size row ≡ [] = drop_of_length-le row a in
    let c : set (kept row 0 x zs) 537 (last_of x zs) ≡ x ∷ zs =
    ap (λ i. set (kept row 0 x zs) i (last_of x zs)) (sym e) ∙ all_kept_lem 0 x row zs ∙ in_front row (x ∷ zs) case_size m (omega arith)
    ∙ ap (λ y. (x ∷ zs) ++ y) d ∙ append-nil (x ∷ zs)
    in
    let s : Goes (probe k no_reading) row (in_line (x ∷ zs)) [] (probe k (reading 537 true (last_of x zs))) (kept row 0 x zs) =
    rw e at (both (number_goes k 0 row (omega arith) x (b 0)) (numbers_go k 0 x row zs (omega arith) (b 0) (λ i. b (suc i))))
    in
    let t = last_number k (last_of x zs) (kept row 0 x zs) (x ∷ zs) (last_below x zs (b 0) (λ i. b (suc i))) c g.places in
    (both s t).on rest

-- between two cases the input may end
ends : (k : ℕ) (row : List ℕ) → output_from (probe k no_reading) row [] ≡ []
unfolding output_from closed_text fed_text fed_probe step stored text_at next_at
ends k row = refl

all_read : (k : ℕ) (row : List ℕ) → length row ≡ case_size → (cases : List (List ℕ)) → AllGood cases
    → output_from (probe k no_reading) row (input cases) ≡ answers cases
unfolding input answers
all_read k row l [] g = ends k row
all_read k row l (xs ∷ cases) g =
    one_read k row xs (input cases) l g.0 ∙ ap (λ y. case_text xs ++ y) (all_read (k_more k) xs g.0.size cases g.1)

pub cases_are_read : CasesAreRead
unfolding output_of
cases_are_read = record { one = one_read; all = λ cases g. all_read 1 (replicate case_size 0) (length-replicate {A = ℕ} case_size 0) cases g }
