-- The numbers of a good call, and that twelve bytes that are not refused tell such numbers. Assumes nothing.
use mathlib.Core.Path.{◌≡◌}
use mathlib.Core.Bool.{false, not, ◌&&◌, ◌||◌}
use mathlib.Core.List.{List}
use Prim.Native.Nat.{ℕ, ◌^◌, ◌<◌, ◌≤◌}
use native.Mathlib.Omega.{arith}
use borrow.Author.Tests.{eqb-true, eqb-false, ltb-false, not-false, eq-eqb}
use lib.Dec.{eqb, ltb}
use lib.ListN.{length}
use Rattle.octets.specs.Bytes.{AllBytes}
use Rattle.octets.proofs.Spelled.{fits_in}
use Rattle.rules.proofs.Facts.{or_none}
use Rattle.runfile.specs.declared.CallRecord.{CallRecord}
use Rattle.runfile.specs.Layout.{part, field, zero_byte, call_record}
use Rattle.rules.specs.Limits.{bad_station}
use Rattle.runfile.specs.Reading.{bad_call}
use Rattle.runfile.proofs.Trailers.{bytes_part, length_part}

-- the numbers of a good call
pub record GoodCall (n : ℕ) (c : CallRecord) : Type 0 where
  pub some : 0 < c.station
  pub few : c.station ≤ n
  pub kind : c.kind ≤ 2
  pub read : c.kind ≡ 0 → (c.a ≡ 0) × (c.b ≡ 0)
  pub a : c.a < 256 ^ 4
  pub b : c.b < 256 ^ 4

-- what refusal 7 looks at, in parts
pub record NotBad (n : ℕ) (s : List ℕ) : Type 0 where
  pub station : bad_station n (field s 0 2) ≡ false
  pub kind : ltb 2 (field s 2 1) ≡ false
  pub zero : zero_byte s ≡ 0
  pub read : (eqb (field s 2 1) 0 && (not (eqb (field s 4 4) 0) || not (eqb (field s 8 4) 0))) ≡ false

pub not_bad : (n : ℕ) (s : List ℕ) → bad_call n s ≡ false → NotBad n s
unfolding bad_call
not_bad n s g =
    let a = or_none (bad_station n (field s 0 2)) _ g in
    let b = or_none (ltb 2 (field s 2 1)) _ a.1 in
    let c = or_none (not (eqb (zero_byte s) 0)) _ b.1 in
    record { station = a.0; kind = b.0; zero = eqb-true (zero_byte s) 0 (not-false (eqb (zero_byte s) 0) c.0); read = c.1 }

-- twelve bytes of a good call have good numbers
module _ (n : ℕ) (s : List ℕ) (h : AllBytes s) (l : length s ≡ 12) (g : bad_call n s ≡ false) where
  pub numbers : GoodCall n (call_record s)
  numbers =
      let b = not_bad n s g in
      let m = or_none (eqb (field s 0 2) 0) (ltb n (field s 0 2)) b.station in
      let o = eqb-false (field s 0 2) 0 m.0 in
      record {
        some = omega arith;
        few = ltb-false n (field s 0 2) m.1;
        kind = ltb-false 2 (field s 2 1) b.kind;
        read = λ e.
            let r = or_none (not (eqb (field s 4 4) 0)) (not (eqb (field s 8 4) 0)) (rw (eq-eqb (field s 2 1) 0 e) at b.read) in
            (eqb-true (field s 4 4) 0 (not-false (eqb (field s 4 4) 0) r.0), eqb-true (field s 8 4) 0 (not-false (eqb (field s 8 4) 0) r.1));
        a = fits_in 4 (part s 4 4) (bytes_part s 4 4 h) (omega (arith, length_part s 4 4 (omega arith)));
        b = fits_in 4 (part s 8 4) (bytes_part s 8 4 h) (omega (arith, length_part s 8 4 (omega arith)));
      }
