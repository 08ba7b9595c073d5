-- A turn keeps the numbers of a bench within their limits, and what it answers is within them too. Assumes nothing.
use mathlib.Core.Path.{◌≡◌, refl}
use mathlib.Core.Bool.{true, not}
use mathlib.Core.List.{List}
use Prim.Native.Nat.{ℕ, ◌+◌, ◌<◌, ◌≤◌}
use native.Mathlib.Omega.{arith}
use borrow.Author.Tests.{leb-true}
use lib.Dec.{eqb}
use lib.ListN.{get_or, set}
use Rattle.rules.proofs.Facts.{either_way}
use Rattle.card.specs.declared.Halves.{Halves}
use Rattle.card.specs.declared.Claim.{Claim}
use Rattle.card.specs.Register.{halves, at_least, max_write, max_claim, half_claim}
use Rattle.method.specs.declared.Place.{Place}
use Rattle.method.specs.declared.Place.TheVariants.{Rest, At11, At12, At13, At14, At15, At16, At18, At19, At20}
use Rattle.method.specs.declared.Station.{Station}
use Rattle.method.specs.declared.Answer.{Answer}
use Rattle.method.specs.declared.Answer.TheVariants.{Idle, Going, Ended, Refused}
use Rattle.method.specs.Record.{told, call, resting}
use Rattle.method.specs.Table.{handed, sees, goes, begun, grown, after16, row}
use Rattle.bench.specs.declared.Bench.{Bench}
use Rattle.bench.specs.declared.Turned.{Turned}
use Rattle.bench.specs.Record.{station_at, a_at, r_at, turned, on_bench}
use Rattle.bench.specs.Sound.{sound}
use Rattle.bench.specs.Promise.{Turn, turn_by}
use Rattle.bench.proofs.Sounds.{facts, ready_at}
use Rattle.bench.proofs.Clear.{by_turn}
use Rattle.limits.specs.Within.{value_limit, StationWithin, Within}
use Rattle.limits.proofs.Elements.{after_set, chosen}

-- what a turn of the bench w hands back, after k turns
pub record Gives (k : ℕ) (w : Bench) (x : Turned) : Type 0 where
  pub within : Within (k + 1) x.bench
  pub same : x.bench.n ≡ w.n
  pub result : (told x.answer).result < value_limit
  pub own : (told x.answer).own ≤ 10

-- what V becomes: it is raised by 2 at most, with a value
record Raised (v x : Halves) : Type 0 where
  low : v.first ≤ x.first
  high : x.first ≤ v.first + 2
  value : x.second < value_limit

abbrev Entries : List Halves → Type 0
Entries a = (j : ℕ) → (get_or a j (halves 0 0)).second < value_limit

-- a set or a swap hands back its truth or a value
hands : (kind truth value : ℕ) → truth ≤ 1 → value < value_limit → handed kind truth value < value_limit
hands kind truth value h g = chosen (λ x. x < value_limit) (eqb kind 2) g (omega arith)

module _ (k : ℕ) (w : Bench) (f : Within k w) where
  later : (v : ℕ) → w.v.first ≤ v → (j : ℕ) → StationWithin (k + 1) v (station_at w j)
  later v h j =
      let o = f.station j in
      omega arith

  -- a turn that changes nothing
  unmoved : (x : Answer) → (told x).result < value_limit → (told x).own ≤ 10 → Gives k w (turned x w)
  unmoved x result own =
      record {
        within = record { version = omega (arith, f.version); value = f.value; claim = f.claim; entry = f.entry; station = later w.v.first (omega arith) };
        same = refl;
        result = result;
        own = own;
      }

  ends_at_once : (result : ℕ) → result < value_limit → Gives k w (turned (Ended result 1) w)
  ends_at_once result h = unmoved (Ended result 1) h (omega arith)

  module _ (i : ℕ) where
    abbrev t : Station
    t = station_at w i

    -- a turn after which the registers and the station's record are these
    moved : (answer : Answer) (v : Halves) (p : Claim) (a r : List Halves) (x : Station) → (told answer).result < value_limit → (told answer).own ≤ 10 → Raised w.v v
        → p.seq ≤ v.first + 2 → Entries a → StationWithin (k + 1) v.first x
        → Gives k w (turned answer (record { n = w.n; v = v; p = p; a = a; r = r; stations = set w.stations i x }))
    moved answer v p a r x result own raised claims entries new =
        record {
          within =
              record {
                version = omega (arith, f.version, raised.high);
                value = raised.value;
                claim = claims;
                entry = entries;
                station = after_set (StationWithin (k + 1) v.first) w.stations i x (resting 0) new (later v.first raised.low);
              };
          same = refl;
          result = result;
          own = own;
        }

    -- one that does not raise V
    stays : (answer : Answer) (p : Claim) (a r : List Halves) (x : Station) → (told answer).result < value_limit → (told answer).own ≤ 10
        → p.seq ≤ w.v.first + 2 → Entries a → StationWithin (k + 1) w.v.first x
        → Gives k w (turned answer (record { n = w.n; v = w.v; p = p; a = a; r = r; stations = set w.stations i x }))
    stays answer p a r x result own = moved answer w.v p a r x result own (record { low = omega arith; high = omega arith; value = f.value })

    goes_on : (p : Claim) (a r : List Halves) (x : Station) → p.seq ≤ w.v.first + 2 → Entries a → StationWithin (k + 1) w.v.first x
        → Gives k w (turned Going (record { n = w.n; v = w.v; p = p; a = a; r = r; stations = set w.stations i x }))
    goes_on p a r x = stays Going p a r x (omega arith) (omega arith)

    -- the station's own record, a turn later
    stands : StationWithin (k + 1) w.v.first t
    stands = later w.v.first (omega arith) i

    raises : Raised w.v (max_write w.v t.saw.seq t.entry.second)
    raises =
        either_way (at_least t.saw.seq w.v.first)
        (λ e. rw e (record { low = leb-true w.v.first t.saw.seq e; high = stands.seq; value = stands.val }))
        (λ e. rw e (record { low = omega arith; high = omega arith; value = f.value }))

    begins : (kind a b : ℕ) → a < value_limit → b < value_limit → Gives k w (row on_bench Rest w i t kind a b)
    unfolding row
    begins kind a b small small' =
        let v = f.value in
        chosen (Gives k w) (eqb kind 3) (unmoved Idle (omega arith) (omega arith))
        (chosen (Gives k w) (eqb kind 0) (ends_at_once w.v.second v)
        (chosen (Gives k w) (not (eqb w.v.second a)) (ends_at_once (handed kind 0 w.v.second) (hands kind 0 w.v.second (omega arith) v))
        (chosen (Gives k w) (eqb a b) (ends_at_once (handed kind 1 w.v.second) (hands kind 1 w.v.second (omega arith) v))
        (goes_on w.p w.a w.r (begun (call kind a b) w.v.first t.c) f.claim f.entry (omega (arith, stands.c))))))

    -- the operation of a place
    row_gives : (p : Place) (kind a b : ℕ) → a < value_limit → b < value_limit → t.own ≤ 9 → (r_at w i).second ≤ 1 → Gives k w (row on_bench p w i t kind a b)
    unfolding row
    row_gives Rest kind a b g h own won = begins kind a b g h
    row_gives At11 kind a b g h own won =
        goes_on w.p (set w.a i (halves (t.c + 1) t.call.b)) w.r (grown t) f.claim
        (after_set (λ e. e.second < value_limit) w.a i (halves (t.c + 1) t.call.b) (halves 0 0) stands.b f.entry)
        (omega (arith, f.station i, stands))
    row_gives At12 kind a b g h own won = goes_on w.p w.a _ (goes t At13) f.claim f.entry (omega (arith, stands))
    row_gives At13 kind a b g h own won =
        goes_on (max_claim w.p (t.s + 1) i t.c) w.a w.r (goes t At14)
        (chosen (λ (p : Claim). p.seq ≤ w.v.first + 2) (at_least (t.s + 1) w.p.seq) (omega (arith, stands.s)) f.claim) f.entry (omega (arith, stands))
    row_gives At14 kind a b g h own won =
        goes_on (half_claim w.p (t.s + 2)) w.a w.r (goes t At15) (omega (arith, stands.s, f.claim)) f.entry (omega (arith, stands))
    row_gives At15 kind a b g h own won =
        goes_on w.p w.a w.r (sees t At16 w.p t.entry) f.claim f.entry (omega (arith, stands, f.claim))
    row_gives At16 kind a b g h own won =
        let e = a_at w t.saw.pid in
        goes_on w.p w.a w.r (sees t (after16 t.saw e) t.saw e) f.claim f.entry (omega (arith, stands, f.entry t.saw.pid))
    row_gives At18 kind a b g h own won = goes_on w.p w.a _ (goes t At19) f.claim f.entry (omega (arith, stands))
    row_gives At19 kind a b g h own won =
        let v = raises in
        moved Going (max_write w.v t.saw.seq t.entry.second) w.p w.a w.r (goes t At20) (omega arith) (omega arith) v
        (omega (arith, f.claim, v.low)) f.entry (omega (arith, stands, v.low))
    row_gives At20 kind a b g h own won =
        stays (Ended (handed t.call.kind (r_at w i).second t.call.a) (t.own + 1)) w.p w.a w.r (resting t.c)
        (hands t.call.kind (r_at w i).second t.call.a won stands.a) (omega arith) f.claim f.entry (omega (arith, stands.c))

-- a turn of a sound bench, with an offer of 32-bit values
pub turn_gives : (k : ℕ) (w : Bench) (u : Turn) → sound w ≡ true → u.a < value_limit → u.b < value_limit → Within k w → Gives k w (turn_by w u)
turn_gives k w u s a b f =
    let i = u.station in
    by_turn (Gives k w) w u (λ number. unmoved k w f (Refused number) (omega arith) (omega arith))
    (λ c.
    let h : i < 33 = omega (arith, c.high, (facts w s).head.0.1.0) in
    row_gives k w f i (station_at w i).place u.kind u.a u.b a b (omega (arith, (ready_at w i s h).0)) ((facts w s).r i h).0.1.0)
