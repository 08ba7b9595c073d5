-- The numbers of a bench say that bench: each field comes back from its place. Assumes nothing.
use mathlib.Core.Path.{◌≡◌, refl, ◌∙◌, ap}
use mathlib.Core.Logic.{⊎_elim}
use mathlib.Core.List.{List, ◌++◌}
use Prim.Native.Nat.{ℕ, zero, suc, ◌+◌, ◌*◌, ◌<◌}
use native.Mathlib.Omega.{arith}
use native.Mathlib.Nat.{le_of_suc-le-suc, eq-or-lt_of_le, mul-zero, mul-suc, mul-le-mul_left}
use lib.ListN.{length, get_or, length-append, get_or-append}
use lib.Seq.{get_or-append-add}
use Rattle.card.specs.Register.{halves}
use Rattle.method.specs.Record.{resting}
use Rattle.bench.specs.declared.Bench.{Bench}
use Rattle.bench.specs.Record.{a_at, r_at, station_at}
use Rattle.probing.specs.Numbers.{place_of, halves_from, station_from, place_at, bench_of, entry_numbers, station_numbers, rows, head_numbers, numbers_of}
use Rattle.probing.proofs.Places.{place_back}
use Rattle.probing.proofs.Filled.{each_is}
use Rattle.probing.specs.Promise.{NumbersSayBenches}

-- rows of one width
module _ (row : ℕ → List ℕ) (m : ℕ) (wide : (i : ℕ) → length (row i) ≡ m) where
  length-rows : (k : ℕ) → length (rows row k) ≡ m * k
  unfolding rows
  length-rows zero = rw mul-zero
  length-rows (suc k) = length-append (rows row k) (row k) ∙ rw (length-rows k, wide k, mul-suc)

  rows_at : (k i j : ℕ) → i < k → j < m → get_or (rows row k) (m * i + j) 0 ≡ get_or (row i) j 0
  unfolding rows
  rows_at zero i j h g = absurd (omega arith)
  rows_at (suc k) i j h g =
      ⊎_elim
      (λ (q : i ≡ k). rw (q, ← length-rows k) (get_or-append-add (rows row k) (row k) j 0))
      (λ (q : i < k).
      let l = length-rows k in
      let e = mul-suc m i in
      let f = mul-le-mul_left m q in
      get_or-append (rows row k) (row k) 0 (m * i + j) (omega arith) ∙ rows_at k i j q g)
      (eq-or-lt_of_le (le_of_suc-le-suc h))

module _ (w : Bench) where
  abbrev E : List ℕ
  E = rows (λ i. entry_numbers (a_at w i) (r_at w i)) 33

  abbrev S : List ℕ
  S = rows (λ i. station_numbers (station_at w i)) 33

  length-entries : length E ≡ 132
  length-entries = length-rows (λ i. entry_numbers (a_at w i) (r_at w i)) 4 (λ i. refl) 33

  -- number j of entry i, and of station i
  entry_at : (n i j : ℕ) → n ≡ 6 + (4 * i + j) → i < 33 → j < 4 → get_or (numbers_of w) n 0 ≡ get_or (entry_numbers (a_at w i) (r_at w i)) j 0
  unfolding numbers_of
  entry_at n i j e h g =
      let l = length-entries in
      ap (λ k. get_or (head_numbers w ++ (E ++ S)) k 0) e ∙ get_or-append-add (head_numbers w) (E ++ S) (4 * i + j) 0
      ∙ get_or-append E S 0 (4 * i + j) (omega arith) ∙ rows_at (λ k. entry_numbers (a_at w k) (r_at w k)) 4 (λ k. refl) 33 i j h g

  station_at_lem : (n i j : ℕ) → n ≡ 138 + (12 * i + j) → i < 33 → j < 12 → get_or (numbers_of w) n 0 ≡ get_or (station_numbers (station_at w i)) j 0
  unfolding numbers_of
  station_at_lem n i j e h g =
      let l = length-entries in
      let d : n ≡ 6 + (length E + (12 * i + j)) = omega arith in
      ap (λ k. get_or (head_numbers w ++ (E ++ S)) k 0) d ∙ get_or-append-add (head_numbers w) (E ++ S) (length E + (12 * i + j)) 0
      ∙ get_or-append-add E S (12 * i + j) 0 ∙ rows_at (λ k. station_numbers (station_at w k)) 12 (λ k. refl) 33 i j h g

  a_back : (i : ℕ) → i < 33 → halves_from (numbers_of w) (6 + 4 * i) ≡ a_at w i
  a_back i h =
      let p = entry_at (6 + 4 * i) i 0 (omega arith) h (omega arith) in
      let q = entry_at (6 + 4 * i + 1) i 1 (omega arith) h (omega arith) in
      λ k. record { first = p k; second = q k }

  r_back : (i : ℕ) → i < 33 → halves_from (numbers_of w) (8 + 4 * i) ≡ r_at w i
  r_back i h =
      let p = entry_at (8 + 4 * i) i 2 (omega arith) h (omega arith) in
      let q = entry_at (8 + 4 * i + 1) i 3 (omega arith) h (omega arith) in
      λ k. record { first = p k; second = q k }

  station_back : (i : ℕ) → i < 33 → station_from (numbers_of w) (place_at i) ≡ station_at w i
  station_back i h =
      let n = place_at i in
      let x₀ = station_at_lem n i 0 (omega arith) h (omega arith) in
      let y : (m j : ℕ) → m ≡ n + j → j < 12 → get_or (numbers_of w) m 0 ≡ get_or (station_numbers (station_at w i)) j 0 = λ m j e g. station_at_lem m i j (omega arith) h g in
      let place = ap place_of x₀ ∙ place_back (station_at w i).place in
      let kind = y (n + 1) 1 (omega arith) (omega arith) in
      let a = y (n + 1 + 1) 2 (omega arith) (omega arith) in
      let b = y (n + 1 + 2) 3 (omega arith) (omega arith) in
      let s = y (n + 4) 4 (omega arith) (omega arith) in
      let own = y (n + 5) 5 (omega arith) (omega arith) in
      let c = y (n + 6) 6 (omega arith) (omega arith) in
      let seq = y (n + 7) 7 (omega arith) (omega arith) in
      let pid = y (n + 7 + 1) 8 (omega arith) (omega arith) in
      let cp = y (n + 7 + 2) 9 (omega arith) (omega arith) in
      let ca = y (n + 10) 10 (omega arith) (omega arith) in
      let val = y (n + 10 + 1) 11 (omega arith) (omega arith) in
      λ k. record {
        place = place k;
        call = record { kind = kind k; a = a k; b = b k };
        s = s k;
        own = own k;
        c = c k;
        saw = record { seq = seq k; pid = pid k; c = cp k };
        entry = record { first = ca k; second = val k };
      }

pub numbers_say_benches : NumbersSayBenches
unfolding NumbersSayBenches bench_of numbers_of
numbers_say_benches w ea er es =
    let a = each_is (λ i. halves_from (numbers_of w) (6 + 4 * i)) w.a (halves 0 0) 33 ea (a_back w) in
    let r = each_is (λ i. halves_from (numbers_of w) (8 + 4 * i)) w.r (halves 0 0) 33 er (r_back w) in
    let t = each_is (λ i. station_from (numbers_of w) (place_at i)) w.stations (resting 0) 33 es (station_back w) in
    λ k. record { n = w.n; v = w.v; p = w.p; a = a k; r = r k; stations = t k }
