-- What a person is told of a text has at most 71 bytes. Assumes nothing.
use Prim.Native.Nat.{◌≤◌, min}
use native.Mathlib.Omega.{arith}
use lib.ListN.{length, length-append}
use Rattle.std.specs.Prelude.{Err}
use Rattle.script.specs.Decimal.{decimal, digits_in}
use Rattle.script.proofs.Decimals.{length-decimal-32}
use Rattle.drafting.specs.declared.Expected.{Expected}
use Rattle.drafting.specs.declared.Expected.TheVariants.{Start, Value, LineEnd, Stations, StationCount, StationOrTurns, Kind, Station, FewerCalls, FewerTurns, Room}
use Rattle.drafting.specs.declared.Complaint.{Complaint}
use Rattle.drafting.specs.Expected.{expected_number}
use Rattle.drafting.specs.Parse.{parsed_numbers}
use Rattle.messages.specs.Complaint.{words_for, complaint_of}

few_words : (x : Expected) → length (words_for (expected_number x)) ≤ 33
unfolding words_for decimal digits_in
few_words Start = omega arith
few_words Value = omega arith
few_words LineEnd = omega arith
few_words Stations = omega arith
few_words StationCount = omega arith
few_words StationOrTurns = omega arith
few_words Kind = omega arith
few_words Station = omega arith
few_words FewerCalls = omega arith
few_words FewerTurns = omega arith
few_words Room = omega arith

pub short : (c : Complaint) → length (complaint_of (parsed_numbers (Err c))) ≤ 71
unfolding complaint_of
short c = simp length-append (omega (arith, length-decimal-32 (min c.line 4294967295) (omega arith), few_words c.expected))
