-- Document 01, "Run file": the bytes of a call, of the trailer and of a whole file. Assumes nothing.
use Rattle.std.specs.Prelude.{cond, ◌||◌, List, ◌++◌, ℕ, ◌+◌, ◌*◌, ◌-◌, ◌/◌, eqb, ltb, length, take, drop}
use Rattle.octets.specs.Bytes.{bytes, spelled}
use Rattle.runfile.specs.declared.CallRecord.{CallRecord}
use Rattle.runfile.specs.declared.Trailer.{Trailer}

-- the k bytes from place a on, and the number that they spell
abbrev pub part : List ℕ → ℕ → ℕ → List ℕ
part s a k = take k (drop a s)

abbrev pub field : List ℕ → ℕ → ℕ → ℕ
field s a k = spelled (part s a k)

-- Call, 12 bytes: station (2), kind 0 to 2 (1), zero (1), a (4), b (4)
abbrev pub call_record : List ℕ → CallRecord
call_record s = record { station = field s 0 2; kind = field s 2 1; a = field s 4 4; b = field s 8 4 }

abbrev pub zero_byte : List ℕ → ℕ
zero_byte s = field s 3 1

-- the same, written
unfoldable pub record_bytes : CallRecord → List ℕ
record_bytes c = bytes 2 c.station ++ bytes 1 c.kind ++ bytes 1 0 ++ bytes 4 c.a ++ bytes 4 c.b

-- the whole records of a table, and the bytes of the one at an index from 0
abbrev pub records : List ℕ → ℕ
records table = length table / 12

abbrev pub call_bytes : List ℕ → ℕ → List ℕ
call_bytes table i = part table (12 * i) 12

abbrev pub no_call : CallRecord
no_call = record { station = 0; kind = 0; a = 0; b = 0 }

-- the call of number k, from 1; all zero where the table has none of that number
unfoldable pub call_of : List ℕ → ℕ → CallRecord
call_of table k = cond (eqb k 0 || ltb (records table) k) no_call (call_record (call_bytes table (k - 1)))

-- Trailer: x (4), n (1), form (1), number of calls q (2), distance back from the trailer's first byte to the call table (4), distance back to the turns (4)
abbrev pub trailer_of : List ℕ → Trailer
trailer_of s =
    record { x = field s 0 4; n = field s 4 1; form = field s 5 1; q = field s 6 2; first = field s 8 4; second = field s 12 4 }

unfoldable pub trailer_bytes : Trailer → List ℕ
trailer_bytes z =
    bytes 4 z.x ++ bytes 1 z.n ++ bytes 1 z.form ++ bytes 2 z.q ++ bytes 4 z.first ++ bytes 4 z.second

-- form = 1; the second distance is the number of turns t; the first is t + 12q
abbrev pub trailer : ℕ → ℕ → ℕ → ℕ → Trailer
trailer x n q t = record { x = x; n = n; form = 1; q = q; first = t + 12 * q; second = t }

-- call table, then turns, then the trailer
unfoldable pub file_of : ℕ → ℕ → List ℕ → List ℕ → List ℕ
file_of x n table turns = table ++ turns ++ trailer_bytes (trailer x n (records table) (length turns))
