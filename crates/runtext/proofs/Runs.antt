-- What it says of a starting value, a number of stations, a call table and turns that they make a good run: a file that reads
-- well holds one, and each of its calls and turns is good. Assumes nothing.
use mathlib.Core.Path.{◌≡◌}
use mathlib.Core.Bool.{Bool, false}
use mathlib.Core.List.{List}
use Prim.Native.Nat.{ℕ, suc, ◌*◌, ◌-◌, ◌^◌, ◌<◌, ◌≤◌}
use native.Mathlib.Omega.{arith}
use borrow.Author.Tests.{eqb-false, ltb-false, ne_eqb, le-ltb}
use lib.Dec.{eqb, ltb}
use lib.ListN.{length, get_or, length-take}
use Rattle.octets.specs.Bytes.{AllBytes}
use Rattle.octets.proofs.Spelled.{fits_in}
use Rattle.rules.specs.Limits.{station_limit, call_limit, turn_limit}
use Rattle.rules.proofs.Facts.{or_none}
use Rattle.runfile.specs.Layout.{part, records, call_bytes, call_record, call_of}
use Rattle.runfile.specs.First.{first_of}
use Rattle.runfile.specs.Reading.{agrees, bad_call_at, bad_turn_at, first_call, first_turn, table_by, turns_by, trailer_at, turn_count, read_of, table_of, turns_of}
use Rattle.runfile.proofs.Answers.{Good, by_answer}
use Rattle.runfile.proofs.First.{searched}
use Rattle.runfile.proofs.Limits.{within}
use Rattle.runfile.proofs.Trailers.{length_part, bytes_part}
use Rattle.runtext.proofs.Records.{GoodCall, numbers}

pub record GoodRun (x n : ℕ) (table turns : List ℕ) : Type 0 where
  pub value : x < 2 ^ 32
  pub some : 0 < n
  pub few : n ≤ station_limit
  pub whole : 12 * records table ≡ length table
  pub calls : records table ≤ call_limit
  pub moves : length turns ≤ turn_limit
  pub good_calls : (i : ℕ) → i < records table → bad_call_at n table i ≡ false
  pub good_turns : (i : ℕ) → i < length turns → bad_turn_at n turns i ≡ false

-- where a search finds nothing, nothing is bad
found_none : (p : ℕ → Bool) (m : ℕ) → ltb 0 (first_of p m) ≡ false → (i : ℕ) → i < m → p i ≡ false
found_none p m e = (searched p m).none.0 (omega (arith, ltb-false 0 (first_of p m) e))

-- a file that reads well holds a good run
module _ (f : List ℕ) (h : AllBytes f) where
  held_by : Good f (trailer_at f) → GoodRun (trailer_at f).x (trailer_at f).n (table_by (trailer_at f) f) (turns_by (trailer_at f) f)
  unfolding first_call first_turn
  held_by g =
      let z = trailer_at f in
      let a = g.agree in
      let l = within z.n z.q (turn_count z) (agrees (length f) z) g.numbers in
      let s : length (table_by z f) ≡ 12 * z.q = length_part f 0 (12 * z.q) (omega arith) in
      let t : length (turns_by z f) ≡ turn_count z = length_part f (12 * z.q) (turn_count z) (omega arith) in
      let n = eqb-false z.n 0 (or_none (eqb z.n 0) (ltb station_limit z.n) g.numbers.0).0 in
      record {
        value = fits_in 4 (part (part f (length f - 16) 16) 0 4) (bytes_part (part f (length f - 16) 16) 0 4 (bytes_part f (length f - 16) 16 h)) (simp length-take (omega arith));
        some = omega arith;
        few = l.few;
        whole = omega arith;
        calls = omega (arith, l.calls);
        moves = omega (arith, l.turns);
        good_calls = found_none (bad_call_at z.n (table_by z f)) (records (table_by z f)) g.contents.0;
        good_turns = found_none (bad_turn_at z.n (turns_by z f)) (length (turns_by z f)) g.contents.1.0;
      }

  pub held : (read_of f).refused ≡ 0 → GoodRun (read_of f).x (read_of f).n (table_of f) (turns_of f)
  held =
      by_answer f (λ r. r.refused ≡ 0 → GoodRun r.x r.n (part f r.start (12 * r.q)) (part f r.middle r.t))
      (λ r k n e. absurd (n e)) (λ g e. held_by g)

-- the calls of a table of bytes, and the turns, one by one
module _ (x n : ℕ) (table turns : List ℕ) (h : AllBytes table) (g : GoodRun x n table turns) where
  pub call_is : (i : ℕ) → i < records table → call_of table (suc i) ≡ call_record (call_bytes table i)
  unfolding call_of
  call_is i l =
      let e : suc i - 1 ≡ i = omega arith in
      rw (ne_eqb (suc i) 0 (λ z. omega arith), le-ltb (records table) (suc i) l, e)

  pub call_length : (i : ℕ) → i < records table → length (call_bytes table i) ≡ 12
  call_length i l = let w = g.whole in length_part table (12 * i) 12 (omega arith)

  pub call_good : (i : ℕ) → i < records table → GoodCall n (call_record (call_bytes table i))
  call_good i l = numbers n (call_bytes table i) (bytes_part table (12 * i) 12 h) (call_length i l) (g.good_calls i l)

  -- a turn is a station
  pub turn_good : (i : ℕ) → i < length turns → (0 < get_or turns i 0) × (get_or turns i 0 ≤ n)
  turn_good i l =
      let b = or_none (eqb (get_or turns i 0) 0) (ltb n (get_or turns i 0)) (g.good_turns i l) in
      let z = eqb-false (get_or turns i 0) 0 b.0 in
      (omega arith, ltb-false n (get_or turns i 0) b.1)
