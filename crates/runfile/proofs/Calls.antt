-- A call's twelve bytes and its numbers: each is made of the other. Assumes nothing.
use mathlib.Core.Path.{◌≡◌, refl, ◌∙◌, sym, ap}
use mathlib.Core.List.{List, ◌++◌, append_assoc}
use Prim.Native.Nat.{ℕ, ◌+◌, ◌≤◌}
use native.Mathlib.Omega.{arith}
use lib.ListN.{length, length-append}
use lib.Seq.{take-add, take_all}
use Rattle.octets.specs.Bytes.{bytes, spelled, AllBytes}
use Rattle.octets.proofs.Bytes.{length-bytes}
use Rattle.octets.proofs.Spelled.{inverse}
use Rattle.runfile.specs.declared.CallRecord.{CallRecord}
use Rattle.runfile.specs.Layout.{part, field, call_record, zero_byte, record_bytes}
use Rattle.runfile.specs.Promise.{Fitting, CallsSpelled}
use Rattle.runfile.proofs.Trailers.{at_front, behind, again}

pub length-record : (c : CallRecord) → length (record_bytes c) ≡ 12
unfolding record_bytes
length-record c = simp (length-append, length-bytes)

-- what the twelve bytes tell
pub record Told (s : List ℕ) (c : CallRecord) : Type 0 where
  pub station : field s 0 2 ≡ c.station
  pub kind : field s 2 1 ≡ c.kind
  pub zero : zero_byte s ≡ 0
  pub a : field s 4 4 ≡ c.a
  pub b : field s 8 4 ≡ c.b

pub told : (c : CallRecord) → Fitting c → Told (record_bytes c) c
unfolding record_bytes
told c f =
    let r5 = bytes 4 c.b in
    let r4 = bytes 4 c.a ++ r5 in
    let r3 = bytes 1 0 ++ r4 in
    let r2 = bytes 1 c.kind ++ r3 in
    let r1 = bytes 2 c.station ++ r2 in
    let p2 : (i j : ℕ) → part r1 (2 + i) j ≡ part r2 i j = behind 2 c.station r2 in
    let p3 : (i j : ℕ) → part r2 (1 + i) j ≡ part r3 i j = behind 1 c.kind r3 in
    let p4 : (i j : ℕ) → part r3 (1 + i) j ≡ part r4 i j = behind 1 0 r4 in
    let p5 : (i j : ℕ) → part r4 (4 + i) j ≡ part r5 i j = behind 4 c.a r5 in
    let l5 : length r5 ≤ 4 = omega (arith, length-bytes 4 c.b) in
    simp append_assoc
    (record {
      station = at_front 2 c.station r2 f.station;
      kind = ap spelled (p2 0 1) ∙ at_front 1 c.kind r3 f.kind;
      zero = ap spelled (p2 1 1 ∙ p3 0 1) ∙ at_front 1 0 r4 (omega arith);
      a = ap spelled (p2 2 4 ∙ p3 1 4 ∙ p4 0 4) ∙ at_front 4 c.a r5 f.a;
      b = ap spelled (p2 6 4 ∙ p3 5 4 ∙ p4 4 4 ∙ p5 0 4 ∙ take_all 4 r5 l5) ∙ inverse.spells_written 4 c.b f.b;
    })

-- twelve bytes of which the fourth is zero are made of their numbers
pub same_record : (s : List ℕ) → AllBytes s → length s ≡ 12 → zero_byte s ≡ 0 → record_bytes (call_record s) ≡ s
unfolding record_bytes
same_record s h l z =
    simp (
      again s 0 2 h (omega arith),
      again s 2 1 h (omega arith),
      ap (bytes 1) (sym z) ∙ again s 3 1 h (omega arith),
      again s 4 4 h (omega arith),
      again s 8 4 h (omega arith),
    )
    (rw (← take-add 2 1 s, ← take-add 3 1 s, ← take-add 4 4 s, ← take-add 8 4 s) (take_all 12 s (omega arith)))

pub calls_spelled : CallsSpelled
calls_spelled =
    record {
      told = λ c f. let t = told c f in (rw (t.station, t.kind, t.a, t.b) refl, t.zero);
      again = same_record;
    }
