-- docs/PROBE.md, "A case": the bench that a row of numbers says, and the numbers of a bench. Past a row's end all is 0. Assumes nothing.
use Rattle.std.specs.Prelude.{Bool, true, cond, ◌&&◌, List, [], ◌∷◌, ◌++◌, ℕ, zero, suc, ◌+◌, ◌*◌, eqb, get_or}
use Rattle.card.specs.declared.Halves.{Halves}
use Rattle.card.specs.declared.Claim.{Claim}
use Rattle.card.specs.Register.{halves, claim}
use Rattle.method.specs.declared.Place.{Place}
use Rattle.method.specs.declared.Place.TheVariants.{Rest, At11, At12, At13, At14, At15, At16, At18, At19, At20}
use Rattle.method.specs.declared.Call.{Call}
use Rattle.method.specs.declared.Station.{Station}
use Rattle.method.specs.Record.{num, call, station}
use Rattle.bench.specs.declared.Bench.{Bench}
use Rattle.bench.specs.Record.{a_at, r_at, station_at}

-- the place that a number names; at rest for a number that names none
unfoldable pub place_of : ℕ → Place
place_of x =
    cond (eqb x 11) At11
    (cond (eqb x 12) At12
    (cond (eqb x 13) At13
    (cond (eqb x 14) At14
    (cond (eqb x 15) At15
    (cond (eqb x 16) At16 (cond (eqb x 18) At18 (cond (eqb x 19) At19 (cond (eqb x 20) At20 Rest))))))))

-- a number names a place where it is that place's number
abbrev pub is_place : ℕ → Bool
is_place x = eqb x (num (place_of x))

-- what the numbers from number i of a row on say
abbrev pub halves_from : List ℕ → ℕ → Halves
halves_from xs i = halves (get_or xs i 0) (get_or xs (i + 1) 0)

abbrev pub claim_from : List ℕ → ℕ → Claim
claim_from xs i = claim (get_or xs i 0) (get_or xs (i + 1) 0) (get_or xs (i + 2) 0)

abbrev pub call_from : List ℕ → ℕ → Call
call_from xs i = call (get_or xs i 0) (get_or xs (i + 1) 0) (get_or xs (i + 2) 0)

-- place, kind, a, b, s, own turns, c, saved seq, pid, cp, ca, val
abbrev pub station_from : List ℕ → ℕ → Station
station_from xs i =
    station (place_of (get_or xs i 0)) (call_from xs (i + 1)) (get_or xs (i + 4) 0) (get_or xs (i + 5) 0) (get_or xs (i + 6) 0) (claim_from xs (i + 7))
    (halves_from xs (i + 10))

-- the first k of something
unfoldable pub each : {X : Type 0} → (ℕ → X) → ℕ → List X
each f zero = []
each f (suc k) = each f k ++ (f k ∷ [])

-- entry i of A and R are four numbers, A's from number 6 on and R's from number 8 on; a station's record is twelve
abbrev pub entries_from : List ℕ → ℕ → ℕ → List Halves
entries_from xs from k = each (λ i. halves_from xs (from + 4 * i)) k

abbrev pub place_at : ℕ → ℕ
place_at i = 138 + 12 * i

abbrev pub stations_from : List ℕ → ℕ → List Station
stations_from xs k = each (λ i. station_from xs (place_at i)) k

unfoldable pub bench_of : List ℕ → Bench
bench_of xs =
    record {
      n = get_or xs 0 0;
      v = halves_from xs 1;
      p = claim_from xs 3;
      a = entries_from xs 6 33;
      r = entries_from xs 8 33;
      stations = stations_from xs 33;
    }

-- stations 0 to k - 1 stand at places
unfoldable pub places_to : List ℕ → ℕ → Bool
places_to xs zero = true
places_to xs (suc k) = places_to xs k && is_place (get_or xs (place_at k) 0)

-- back: the numbers of a bench
abbrev pub halves_numbers : Halves → List ℕ
halves_numbers e = e.first ∷ e.second ∷ []

abbrev pub claim_numbers : Claim → List ℕ
claim_numbers p = p.seq ∷ p.pid ∷ p.c ∷ []

abbrev pub call_numbers : Call → List ℕ
call_numbers o = o.kind ∷ o.a ∷ o.b ∷ []

abbrev pub entry_numbers : Halves → Halves → List ℕ
entry_numbers a r = halves_numbers a ++ halves_numbers r

abbrev pub station_numbers : Station → List ℕ
station_numbers t =
    (num t.place ∷ []) ++ call_numbers t.call ++ (t.s ∷ []) ++ (t.own ∷ []) ++ (t.c ∷ []) ++ claim_numbers t.saw ++ halves_numbers t.entry

-- the first k rows, one after the other
unfoldable pub rows : (ℕ → List ℕ) → ℕ → List ℕ
rows row zero = []
rows row (suc k) = rows row k ++ row k

abbrev pub head_numbers : Bench → List ℕ
head_numbers w = (w.n ∷ []) ++ halves_numbers w.v ++ claim_numbers w.p

unfoldable pub numbers_of : Bench → List ℕ
numbers_of w = head_numbers w ++ (rows (λ i. entry_numbers (a_at w i) (r_at w i)) 33 ++ rows (λ i. station_numbers (station_at w i)) 33)
