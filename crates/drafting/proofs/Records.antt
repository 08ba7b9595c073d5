-- Good numbers make a good call, and a table is a call longer. Assumes nothing.
use mathlib.Core.Path.{◌≡◌, ◌∙◌, ap}
use mathlib.Core.Bool.{false}
use mathlib.Core.List.{List, ◌++◌}
use Prim.Native.Nat.{ℕ, ◌*◌, ◌<◌, ◌≤◌}
use native.Mathlib.Omega.{arith}
use borrow.Author.Tests.{eqb-true, eq-eqb, ne_eqb, le-ltb}
use lib.Dec.{eqb}
use lib.ListN.{length, take, drop, length-drop}
use lib.Seq.{take_all, take-append-le, drop_at, drop-append-le}
use Rattle.rules.specs.Limits.{station_limit}
use Rattle.rules.proofs.Facts.{either_way}
use Rattle.runfile.specs.declared.CallRecord.{CallRecord}
use Rattle.runfile.specs.Layout.{record_bytes, call_bytes}
use Rattle.runfile.specs.Reading.{bad_call}
use Rattle.runfile.specs.Promise.{Fitting}
use Rattle.runfile.proofs.Calls.{told}
use Rattle.runtext.proofs.Records.{GoodCall}

-- the numbers of a good call fit their fields
fitting : (n : ℕ) (c : CallRecord) → n ≤ station_limit → GoodCall n c → Fitting c
fitting n c h g =
    let f = g.few in
    let k = g.kind in
    record { station = omega arith; kind = omega arith; a = g.a; b = g.b }

-- good numbers make a good call
pub good_call : (n : ℕ) (c : CallRecord) → n ≤ station_limit → GoodCall n c → bad_call n (record_bytes c) ≡ false
unfolding bad_call
good_call n c h g =
    let t = told c (fitting n c h g) in
    let s = g.some in
    let st : eqb c.station 0 ≡ false = ne_eqb c.station 0 (λ e. omega arith) in
    rw (t.station, t.kind, t.zero, t.a, t.b, st, le-ltb n c.station g.few, le-ltb 2 c.kind g.kind)
    (either_way (eqb c.kind 0)
    (λ u. let r = g.read (eqb-true c.kind 0 u) in rw (u, eq-eqb c.a 0 r.0, eq-eqb c.b 0 r.1))
    (λ f. rw f))

-- a table with a call more: the calls before it, and the call
module _ (table call : List ℕ) (q : ℕ) (h : length table ≡ 12 * q) where
  pub call_before : (i : ℕ) → i < q → call_bytes (table ++ call) i ≡ call_bytes table i
  call_before i g =
      ap (take 12) (drop-append-le (12 * i) table call (omega arith))
      ∙ take-append-le 12 (drop (12 * i) table) call (simp length-drop (omega arith))

  pub call_last : length call ≡ 12 → call_bytes (table ++ call) q ≡ call
  call_last l = ap (take 12) (drop_at table call (12 * q) h) ∙ take_all 12 call (omega arith)
