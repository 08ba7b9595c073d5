-- Document 01's limits for stations, calls and turns, and which station numbers are bad. Assumes nothing.
use Rattle.std.specs.Prelude.{Bool, ◌||◌, ℕ, eqb, ltb}

-- 1 to 32 stations
abbrev pub station_limit : ℕ
station_limit = 32

-- q at most 1,024, t at most 40,960
abbrev pub call_limit : ℕ
call_limit = 1024

abbrev pub turn_limit : ℕ
turn_limit = 40960

-- a station of 0 or over n
abbrev pub bad_station : ℕ → ℕ → Bool
bad_station n i = eqb i 0 || ltb n i
