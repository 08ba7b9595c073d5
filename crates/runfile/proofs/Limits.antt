-- What it says of the numbers that refusals 3 to 6 do not hold. Assumes nothing.
use mathlib.Core.Path.{◌≡◌}
use mathlib.Core.Bool.{Bool, true}
use Prim.Native.Nat.{ℕ, ◌+◌, ◌*◌, ◌≤◌}
use borrow.Author.Tests.{eqb-true, eq-eqb, ltb-false, not-false}
use lib.Dec.{eqb, ltb}
use Rattle.rules.specs.Limits.{station_limit, call_limit, turn_limit}
use Rattle.rules.proofs.Facts.{and_left, and_right, and_both, or_none}
use Rattle.rules.proofs.Rows.{Clear}
use Rattle.runfile.specs.declared.Trailer.{Trailer}
use Rattle.runfile.specs.Reading.{limit_rows, agrees}

pub record Within (n q t : ℕ) (agree : Bool) : Type 0 where
  pub few : n ≤ station_limit
  pub calls : q ≤ call_limit
  pub turns : t ≤ turn_limit
  pub agreed : agree ≡ true

pub within : (n q t : ℕ) (agree : Bool) → Clear (limit_rows n q t agree) → Within n q t agree
within n q t agree f =
    record {
      few = ltb-false station_limit n (or_none (eqb n 0) (ltb station_limit n) f.0).1;
      calls = ltb-false call_limit q f.1.0;
      turns = ltb-false turn_limit t f.1.1.0;
      agreed = not-false agree f.1.1.1.0;
    }

-- the same numbers, where what must agree for 6 is another matter
pub agreed_anew : (n q t : ℕ) (a b : Bool) → b ≡ true → Clear (limit_rows n q t a) → Clear (limit_rows n q t b)
agreed_anew n q t a b e f = (f.0, (f.1.0, (f.1.1.0, (rw e, tt))))

-- the distances and the length agree
pub record Agreed (len : ℕ) (z : Trailer) : Type 0 where
  pub first : z.first ≡ z.second + 12 * z.q
  pub whole : len ≡ 16 + z.first

pub agreed : (len : ℕ) (z : Trailer) → agrees len z ≡ true → Agreed len z
agreed len z e =
    let a = eqb z.first (z.second + 12 * z.q) in
    let b = eqb len (16 + z.first) in
    record { first = eqb-true z.first (z.second + 12 * z.q) (and_left a b e); whole = eqb-true len (16 + z.first) (and_right a b e) }

pub agreeing : (len : ℕ) (z : Trailer) → Agreed len z → agrees len z ≡ true
agreeing len z a = and_both (eq-eqb z.first (z.second + 12 * z.q) a.first) (eq-eqb len (16 + z.first) a.whole)
