-- docs/RUN-TEXT.md, "What is refused": the number of what was expected. Assumes nothing.
use Rattle.std.specs.Prelude.{ℕ}
use Rattle.drafting.specs.declared.Expected.{Expected}
use Rattle.drafting.specs.declared.Expected.TheVariants.{Start, Value, LineEnd, Stations, StationCount, StationOrTurns, Kind, Station, FewerCalls, FewerTurns, Room}

abbrev pub expected_number : Expected → ℕ
expected_number Start = 1
expected_number Value = 2
expected_number LineEnd = 3
expected_number Stations = 4
expected_number StationCount = 5
expected_number StationOrTurns = 6
expected_number Kind = 7
expected_number Station = 8
expected_number FewerCalls = 9
expected_number FewerTurns = 10
expected_number Room = 14
