-- Decimal numbers: their digits, how many they are, and the scratch row that holds them. Assumes nothing.
use mathlib.Core.Path.{◌≡◌, refl, ◌∙◌, sym, ap}
use mathlib.Core.Bool.{cond}
use mathlib.Core.List.{List, [], ◌∷◌, ◌++◌, append_assoc}
use Prim.Native.Nat.{ℕ, zero, suc, ◌+◌, ◌-◌, ◌/◌, ◌%◌, ◌^◌, ◌<◌, ◌≤◌}
use native.Mathlib.Omega.{arith}
use native.Mathlib.Nat.{pow-suc}
use native.Mathlib.Numerals.{sub-one}
use borrow.Author.Tests.{ltb-true, ltb-false, lt-ltb, le-ltb}
use lib.Dec.{ltb}
use lib.ListN.{length, set, take, drop, length-append, length-set, length-drop}
use lib.Seq.{take_all}
use Rattle.std.proofs.lemmas.List.{drop-set}
use Rattle.rules.proofs.Facts.{either_way}
use Rattle.script.specs.Decimal.{digit, digits_in, decimal}

-- more room to count in changes nothing
enough : (k j n : ℕ) → n ≤ k → n ≤ j → digits_in k n ≡ digits_in j n
unfolding digits_in
enough zero zero n h g = refl
enough zero (suc j) n h g =
    let l : n < 10 = omega arith in
    rw (lt-ltb n 10 l)
enough (suc k) zero n h g =
    let l : n < 10 = omega arith in
    rw (lt-ltb n 10 l)
enough (suc k) (suc j) n h g =
    ap (λ ds. cond (ltb n 10) (digit n ∷ []) (ds ++ (digit (n % 10) ∷ []))) (enough k j (n / 10) (omega arith) (omega arith))

pub one_digit : (n : ℕ) → n < 10 → decimal n ≡ digit n ∷ []
unfolding decimal digits_in
one_digit zero h = refl
one_digit (suc n) h = rw (lt-ltb (suc n) 10 h)

pub last_digit : (n : ℕ) → 10 ≤ n → decimal n ≡ decimal (n / 10) ++ (digit (n % 10) ∷ [])
unfolding decimal digits_in
last_digit zero h = absurd (omega arith)
last_digit (suc n) h =
    rw (le-ltb (suc n) 10 h)
    (ap (λ ds. ds ++ (digit (suc n % 10) ∷ [])) (enough n (suc n / 10) (suc n / 10) (omega arith) (omega arith)))

-- by one digit or a number and its last digit: what holds of the first and is kept by a digit more holds of every decimal
pub by_digits : (P : ℕ → List ℕ → Type 0)
    → ((n : ℕ) → n < 10 → P n (digit n ∷ []))
    → ((n : ℕ) → 10 ≤ n → P (n / 10) (decimal (n / 10)) → P n (decimal (n / 10) ++ (digit (n % 10) ∷ [])))
    → (n : ℕ) → P n (decimal n)
by_digits P one more n = go n n (omega arith) where
  go : (k n : ℕ) → n ≤ k → P n (decimal n)
  go zero n h = rw (one_digit n (omega arith)) (one n (omega arith))
  go (suc k) n h =
      either_way (ltb n 10)
      (λ t. let l = ltb-true n 10 t in rw (one_digit n l) (one n l))
      (λ f. let l = ltb-false n 10 f in rw (last_digit n l) (more n l (go k (n / 10) (omega arith))))

-- of a number of k digits at most
shrink : (k n : ℕ) → n < 10 ^ k → 10 ≤ n → (n / 10 < 10 ^ (k - 1)) × (2 ≤ k)
shrink zero n h g = absurd (omega arith)
shrink (suc zero) n h g = absurd (omega arith)
shrink (suc (suc k)) n h g = (rw sub-one (omega (arith, rw pow-suc at h)), omega arith)

pub length-decimal : (n k : ℕ) → n < 10 ^ k → 0 < k → length (decimal n) ≤ k
length-decimal =
    by_digits (λ n l. (k : ℕ) → n < 10 ^ k → 0 < k → length l ≤ k)
    (λ n h k l g. omega arith)
    (λ n h p k l g.
    let s = shrink k n l h in
    omega (arith, length-append (decimal (n / 10)) (digit (n % 10) ∷ []), p (k - 1) s.0 (omega arith)))

pub length-decimal-32 : (n : ℕ) → n < 2 ^ 32 → length (decimal n) ≤ 10
length-decimal-32 n h = length-decimal n 10 (omega arith) (omega arith)

-- what the writer of a decimal keeps: the digits of n, and then the scratch row's from first + 1 on, are those of x
pub record Filled (x n first : ℕ) (digits : List ℕ) : Type 0 where
  pub ten : length digits ≡ 10
  pub few : n < 10 ^ (first + 1)
  pub last : first ≤ 9
  pub told : decimal x ≡ decimal n ++ drop (first + 1) digits

module _ {x n first : ℕ} {digits : List ℕ} (f : Filled x n first digits) where
  -- there is room for another digit
  pub room : 10 ≤ n → 1 ≤ first
  room g = omega (arith, (shrink (first + 1) n f.few g).1)

  pub filled_more : 10 ≤ n → Filled x (n / 10) (first - 1) (set digits first (digit (n % 10)))
  filled_more g =
      let r = room g in
      let e : first - 1 + 1 ≡ first = omega arith in
      let d = n % 10 in
      let h : first < length digits = omega (arith, f.ten, f.last) in
      let k : first + 1 - 1 ≡ first = omega arith in
      record {
        ten = simp length-set f.ten;
        few = rw (e, sym k) (shrink (first + 1) n f.few g).0;
        last = omega (arith, f.last);
        told = f.told ∙ ap (λ l. l ++ drop (first + 1) digits) (last_digit n g)
            ∙ append_assoc (decimal (n / 10)) (digit d ∷ []) (drop (first + 1) digits)
            ∙ ap (λ l. decimal (n / 10) ++ l) (sym (drop-set digits first (digit d) h) ∙ ap (λ i. drop i (set digits first (digit d))) (sym e));
      }

  -- the digits in the scratch row
  pub filled_all : n < 10 → take (10 - first) (drop first (set digits first (digit n))) ≡ decimal x
  filled_all g =
      let row = set digits first (digit n) in
      take_all (10 - first) (drop first row) (simp (length-drop, length-set) (omega (arith, f.ten)))
      ∙ drop-set digits first (digit n) (omega (arith, f.ten, f.last))
      ∙ ap (λ l. l ++ drop (first + 1) digits) (sym (one_digit n g)) ∙ sym f.told
