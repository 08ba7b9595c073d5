-- How long the text of a good run is: 153,635 bytes at most. Assumes nothing.
use mathlib.Core.List.{List}
use Prim.Native.Nat.{ℕ, zero, suc, ◌+◌, ◌*◌, ◌^◌, ◌<◌, ◌≤◌}
use native.Mathlib.Omega.{arith}
use lib.Dec.{eqb}
use lib.ListN.{length, get_or, length-append}
use Rattle.octets.specs.Bytes.{AllBytes}
use Rattle.rules.specs.Limits.{station_limit}
use Rattle.rules.proofs.Facts.{either_way}
use Rattle.script.specs.Decimal.{decimal}
use Rattle.script.proofs.Decimals.{length-decimal, length-decimal-32}
use Rattle.script.proofs.Lengths.{length-kind}
use Rattle.runfile.specs.declared.CallRecord.{CallRecord}
use Rattle.runfile.specs.Layout.{records, call_bytes, call_record}
use Rattle.runtext.specs.Text.{head_text, values_text, call_text, calls_text, rows_text, turns_text, text_of}
use Rattle.runtext.proofs.Records.{GoodCall}
use Rattle.runtext.proofs.Runs.{GoodRun, call_is, call_good, turn_good}

two_digits : (n : ℕ) → n ≤ station_limit → length (decimal n) ≤ 2
two_digits n h = length-decimal n 2 (omega arith) (omega arith)

length-head : (x n : ℕ) → x < 2 ^ 32 → n ≤ station_limit → length (head_text x n) ≤ 29
unfolding head_text
length-head x n h g = simp length-append (omega (arith, length-decimal-32 x h, two_digits n g))

length-values : (c : CallRecord) → c.a < 2 ^ 32 → c.b < 2 ^ 32 → length (values_text c) ≤ 22
unfolding values_text
length-values c h g =
    either_way (eqb c.kind 0) (λ t. rw t (omega arith))
    (λ f. rw f (simp length-append (omega (arith, length-decimal-32 c.a h, length-decimal-32 c.b g))))

length-call : (n : ℕ) (c : CallRecord) → n ≤ station_limit → GoodCall n c → length (call_text c) ≤ 30
unfolding call_text
length-call n c h g =
    let s = g.few in
    simp length-append
    (omega (arith, two_digits c.station (omega arith), length-kind c.kind, length-values c g.a g.b))

-- a run whose table is bytes
module _ (x n : ℕ) (table turns : List ℕ) (h : AllBytes table) (g : GoodRun x n table turns) where
  length-calls : (i : ℕ) → i ≤ records table → length (calls_text table i) ≤ 30 * i
  unfolding calls_text
  length-calls zero l = omega arith
  length-calls (suc i) l =
      let c = length-call n (call_record (call_bytes table i)) g.few (call_good x n table turns h g i (omega arith)) in
      rw (call_is x n table turns h g i (omega arith)) (simp length-append (omega (arith, c, length-calls i (omega arith))))

  length-rows : (i : ℕ) → i ≤ length turns → length (rows_text turns i) ≤ 3 * i
  unfolding rows_text
  length-rows zero l = omega arith
  length-rows (suc i) l =
      let t = (turn_good x n table turns h g i (omega arith)).1 in
      let f = g.few in
      simp length-append (omega (arith, two_digits (get_or turns i 0) (omega arith), length-rows i (omega arith)))

  length-turns : length (turns_text turns) ≤ 6 + 3 * length turns
  unfolding turns_text
  length-turns =
      either_way (eqb (length turns) 0) (λ t. rw t (omega arith))
      (λ f. rw f (simp length-append (omega (arith, length-rows (length turns) (omega arith)))))

  pub length-text : length (text_of x n table turns) ≤ 153635
  unfolding text_of
  length-text =
      let a = g.calls in
      let b = g.moves in
      simp length-append
      (omega (arith, length-head x n g.value g.few, length-calls (records table) (omega arith), length-turns))
