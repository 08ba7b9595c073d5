-- Document 01, "A sound bench": a definition for each sentence, and the test of them all. `limit` is the largest count that the card holds. Assumes nothing.
use Rattle.std.specs.Prelude.{Bool, true, not, ◌&&◌, ◌||◌, List, [], ◌∷◌, ℕ, zero, suc, leb, ltb, eqb}
use Rattle.card.specs.declared.Halves.{Halves}
use Rattle.rules.specs.Limits.{station_limit}
use Rattle.rules.specs.Test.{Test, same, differ, at_most, even, one_of, Rule, given, always, all_kept}
use Rattle.method.specs.declared.Place.{Place}
use Rattle.method.specs.declared.Place.TheVariants.{Rest, At11, At12, At13, At14, At15, At16, At18, At19, At20}
use Rattle.method.specs.declared.Station.{Station}
use Rattle.reach.specs.Step.{count_limit, version_limit}
use Rattle.bench.specs.declared.Bench.{Bench}
use Rattle.method.specs.Record.{num, at_rest}
use Rattle.bench.specs.Record.{station_at, a_at, r_at}

-- n is 1 to 32
abbrev pub few_stations : Bench → Rule
few_stations w = always (at_most 1 w.n ∷ at_most w.n station_limit ∷ [])

-- fields and station counts keep the limits under Registers: of P (its pid by `pidWithin`), A[i], R[i] and a station
abbrev pub p_limit : ℕ → Bench → Rule
p_limit limit w = always (at_most w.p.c limit ∷ [])

abbrev pub a_limit : ℕ → Halves → Rule
a_limit limit a = always (at_most a.first limit ∷ [])

abbrev pub r_limit : ℕ → Halves → Rule
r_limit limit r = always (at_most r.first limit ∷ at_most r.second 1 ∷ [])

abbrev pub station_count : ℕ → Station → Rule
station_count limit t = always (at_most t.c limit ∷ [])

-- V.seq is even
abbrev pub even_version : Bench → Rule
even_version w = always (even w.v.first ∷ [])

-- P.pid is at most n
abbrev pub pid_within : Bench → Rule
pid_within w = always (at_most w.p.pid w.n ∷ [])

-- what a station reads after its first version: seq, pid, cp, ca and val
abbrev pub zero_halves : Halves → List Test
zero_halves e = same e.first 0 ∷ same e.second 0 ∷ []

abbrev pub unread : Station → List Test
unread t = same t.saw.seq 0 ∷ same t.saw.pid 0 ∷ same t.saw.c 0 ∷ zero_halves t.entry

abbrev pub zero_but_count : Station → List Test
zero_but_count t = same t.own 0 ∷ same t.call.kind 0 ∷ same t.call.a 0 ∷ same t.call.b 0 ∷ same t.s 0 ∷ unread t

-- entries and stations above n are as fresh
abbrev pub entry_above : ℕ → ℕ → Halves → Rule
entry_above n i e = given (ltb n i) (zero_halves e)

abbrev pub fresh_station : Place → Station → List Test
fresh_station p t = same t.c 0 ∷ same (num p) 0 ∷ zero_but_count t

abbrev pub station_above : ℕ → ℕ → Place → Station → Rule
station_above n i p t = given (ltb n i) (fresh_station p t)

-- record 0 belongs to no station and is as fresh; entry 0 of A and R keeps the limits and nothing more
abbrev pub no_station : ℕ → Place → Station → Rule
no_station i p t = given (eqb i 0) (fresh_station p t)

-- resting stations hold zero in all but c
abbrev pub rests_zero : Place → Station → Rule
rests_zero p t = given (at_rest p) (zero_but_count t)

-- own turns are 0 at rest; 1, 2, 3, 4, 5, 6 at places 11 to 16; 7 at 18; 8 at 19; 7 or 9 at 20
abbrev pub own_turns : Place → ℕ → Test
own_turns Rest own = same own 0
own_turns At11 own = same own 1
own_turns At12 own = same own 2
own_turns At13 own = same own 3
own_turns At14 own = same own 4
own_turns At15 own = same own 5
own_turns At16 own = same own 6
own_turns At18 own = same own 7
own_turns At19 own = same own 8
own_turns At20 own = one_of own 7 9

-- in a call: kind set or swap, a ≠ b, s even and at most 4,294,967,292, saved pid at most n, saved counts at most the limit
abbrev pub called : ℕ → ℕ → Station → List Test
called limit n t =
    one_of t.call.kind 1 2 ∷ differ t.call.a t.call.b ∷ even t.s ∷ at_most t.s version_limit ∷ at_most t.saw.pid n ∷ at_most t.saw.c limit
    ∷ at_most t.entry.first limit ∷ []

abbrev pub in_call : ℕ → ℕ → Place → Station → Rule
in_call limit n p t = given (not (at_rest p)) (called limit n t)

-- at 11, c is at most 65,534: below the limit
abbrev pub room_at11 : ℕ → Place → Station → Rule
room_at11 limit p t = given (eqb (num p) 11) (at_most (suc t.c) limit ∷ [])

-- at 11 to 15 all that is read later is 0
abbrev pub unread_to15 : Place → Station → Rule
unread_to15 p t = given (leb 11 (num p) && leb (num p) 15) (unread t)

-- at 16 ca and val are 0
abbrev pub unread_at16 : Place → Station → Rule
unread_at16 p t = given (eqb (num p) 16) (zero_halves t.entry)

-- at 18 and 19, seq is even and cp = ca
abbrev pub agreed : Station → List Test
agreed t = even t.saw.seq ∷ same t.saw.c t.entry.first ∷ []

abbrev pub agreed_at18 : Place → Station → Rule
agreed_at18 p t = given (eqb (num p) 18 || eqb (num p) 19) (agreed t)

-- a station stands only at rest or at 11 to 16, 18, 19 or 20: these are all that `Place` has

-- the rules of the bench's head, of A[i], of R[i], and of station i at place p
abbrev pub head_rules : ℕ → Bench → List Rule
head_rules limit w = few_stations w ∷ p_limit limit w ∷ even_version w ∷ pid_within w ∷ []

abbrev pub a_rules : ℕ → ℕ → ℕ → Halves → List Rule
a_rules limit n i a = a_limit limit a ∷ entry_above n i a ∷ []

abbrev pub r_rules : ℕ → ℕ → ℕ → Halves → List Rule
r_rules limit n i r = r_limit limit r ∷ entry_above n i r ∷ []

abbrev pub station_rules : ℕ → ℕ → ℕ → Place → Station → List Rule
station_rules limit n i p t =
    station_count limit t ∷ station_above n i p t ∷ no_station i p t ∷ rests_zero p t ∷ always (own_turns p t.own ∷ []) ∷ in_call limit n p t ∷ room_at11 limit p t ∷ unread_to15 p t
    ∷ unread_at16 p t ∷ agreed_at18 p t ∷ []

abbrev pub rules_of : ℕ → ℕ → ℕ → Station → List Rule
rules_of limit n i t = station_rules limit n i t.place t

unfoldable pub entry_kept : ℕ → ℕ → ℕ → Halves → Halves → Station → Bool
entry_kept limit n i a r t = all_kept (a_rules limit n i a) && (all_kept (r_rules limit n i r) && all_kept (rules_of limit n i t))

-- entries and stations 0 to k - 1
unfoldable pub each_entry : ℕ → Bench → ℕ → Bool
each_entry limit w zero = true
each_entry limit w (suc k) = each_entry limit w k && entry_kept limit w.n k (a_at w k) (r_at w k) (station_at w k)

unfoldable pub sound : Bench → Bool
sound w = all_kept (head_rules count_limit w) && each_entry count_limit w 33
