-- The values of a file of bytes are 32 bits: x, and each call's a and b. Assumes nothing.
use mathlib.Core.Bool.{◌||◌}
use mathlib.Core.List.{List}
use Prim.Native.Nat.{ℕ, ◌*◌, ◌-◌, ◌<◌}
use native.Mathlib.Omega.{arith}
use lib.Dec.{eqb, ltb}
use lib.ListN.{length, length-take}
use Rattle.rules.proofs.Facts.{either_way}
use Rattle.octets.specs.Bytes.{AllBytes}
use Rattle.octets.proofs.Spelled.{fits_in}
use Rattle.runfile.specs.Layout.{part, field, records, call_bytes, call_of}
use Rattle.runfile.specs.Reading.{read_of}
use Rattle.runfile.proofs.Answers.{by_answer}
use Rattle.runfile.proofs.Trailers.{bytes_part}
use Rattle.limits.specs.Within.{value_limit}

-- four bytes
field_small : (s : List ℕ) (a : ℕ) → AllBytes s → field s a 4 < value_limit
field_small s a h = fits_in 4 (part s a 4) (bytes_part s a 4 h) (simp length-take (omega arith))

pub call_small : (table : List ℕ) → AllBytes table → (c : ℕ) → ((call_of table c).a < value_limit) × ((call_of table c).b < value_limit)
unfolding call_of
call_small table h c =
    let s = call_bytes table (c - 1) in
    let g = bytes_part table (12 * (c - 1)) 12 h in
    either_way (eqb c 0 || ltb (records table) c) (λ t. rw t (omega arith, omega arith)) (λ u. rw u (field_small s 4 g, field_small s 8 g))

pub x_small : (file : List ℕ) → AllBytes file → (read_of file).x < value_limit
x_small file h =
    by_answer file (λ r. r.x < value_limit) (λ r k e. omega arith)
    (λ g. field_small (part file (length file - 16) 16) 0 (bytes_part file (length file - 16) 16 h))
