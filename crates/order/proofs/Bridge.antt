-- A bench is a world of the method that has one word, number 0, and a turn of the bench is a turn of that world, one line a place. Assumes nothing.
use mathlib.Core.Path.{◌≡◌, refl, ◌∙◌, sym, ap, subst⁻¹}
use mathlib.Core.Bool.{Bool, true, false, cond, not}
use mathlib.Core.List.{List}
use Prim.Native.Nat.{ℕ, zero, suc, ◌<◌}
use native.Mathlib.Omega.{arith}
use lib.Dec.{eqb}
use lib.ListN.{length, get_or, set, replicate, length-set}
use lib.Seq.{get_or-set_same, get_or-set_other}
use Rattle.card.specs.declared.Halves.{Halves}
use Rattle.card.specs.declared.Claim.{Claim}
use Rattle.card.specs.Register.{halves, claim}
use Rattle.method.specs.declared.Place.{Place}
use Rattle.method.specs.declared.Place.TheVariants.{Rest, At11, At12, At13, At14, At15, At16, At18, At19, At20}
use Rattle.method.specs.declared.Station.{Station}
use Rattle.method.specs.declared.Answer.{Answer}
use Rattle.method.specs.declared.Answer.TheVariants.{Idle, Going, Ended}
use Rattle.method.specs.Record.{call, resting}
use Rattle.method.specs.Table.{handed, goes, begun, grown, row}
use Rattle.method.specs.Effect.{one_word, points}
use Rattle.method.specs.Update.{upd}
use Rattle.method.specs.World.{World, Stepped, on_world, taking}
use Rattle.method.specs.World as World
use Rattle.method.specs.Watch.{Event, Watcher, watching, watched, Good}
use Rattle.method.specs.Events.{events_of}
use Rattle.method.proofs.Upd.{upd_all, upd_id}
use Rattle.method.proofs.Inv.{Inv, start, turn}
use Rattle.reach.specs.Reach.{reaching}
use Rattle.bench.specs.declared.Bench.{Bench}
use Rattle.bench.specs.declared.Turned.{Turned}
use Rattle.bench.specs.Record.{blank, station_at, a_at, r_at, put_station, turned, on_bench}
use Rattle.bench.specs.Promise.{Turn, turn_by}
use Rattle.bench.proofs.Sounds.{facts, within_at}
use Rattle.bench.proofs.Clear.{by_turn}

-- x at word 0, and d at every other
abbrev pub only : {X : Type 0} → X → X → ℕ → X
only d x z = cond (eqb z 0) x d

abbrev pub view : Bench → World
view w = record { v = only (halves 0 0) w.v; p = only (claim 0 0 0) w.p; a = a_at w; r = r_at w; st = station_at w; word = one_word }

-- the turn u of that world
abbrev pub of_word : Turn → World.WorldTurn
of_word u = record { station = u.station; word = 0; kind = u.kind; a = u.a; b = u.b }

abbrev shows : Turned → Stepped
shows x = record { answer = x.answer; world = view x.bench }

only_set : {X : Type 0} (d x y : X) → only d y ≡ upd (only d x) 0 y
unfolding upd
only_set {X} d x y = λ k z. at (eqb z 0) k
  where
    at : (t : Bool) → cond t y d ≡ cond t y (cond t x d)
    at true = refl
    at false = refl

-- what is read of a list that was written at j
pub read_set : {X : Type 0} (l : List X) (j : ℕ) (x d : X) → j < length l → (i : ℕ) → get_or (set l j x) i d ≡ upd (λ i. get_or l i d) j x i
read_set {X} l j x d h i =
    sym (upd_all (λ i. get_or l i d) j x (λ i (y : X). y ≡ get_or (set l j x) i d) (sym (get_or-set_same l j x d h)) (λ i ne. sym (get_or-set_other l j i x d ne)) i)

-- a bench of n stations has 33 entries everywhere
abbrev pub Shape : ℕ → Bench → Type 0
Shape n w = (w.n ≡ n) × ((length w.a ≡ 33) × ((length w.r ≡ 33) × (length w.stations ≡ 33)))

put_shape : {n : ℕ} (w : Bench) (i : ℕ) (t : Station) → Shape n w → Shape n (put_station i t w)
put_shape w i t s = (s.0, (s.1.0, (s.1.1.0, length-set w.stations i t ∙ s.1.1.1)))

module _ (w : Bench) (i : ℕ) (inside : i < length w.stations) where
  abbrev t : Station
  t = station_at w i

  -- the station has the record t', and the registers are v, p, a and r
  put : (x : Answer) (v : Halves) (p : Claim) (a r : List Halves) (t' : Station) {v' : ℕ → Halves} {p' : ℕ → Claim} {a' r' : ℕ → Halves}
      → only (halves 0 0) v ≡ v' → only (claim 0 0 0) p ≡ p' → ((j : ℕ) → get_or a j (halves 0 0) ≡ a' j) → ((j : ℕ) → get_or r j (halves 0 0) ≡ r' j)
      → shows (turned x (record { n = w.n; v = v; p = p; a = a; r = r; stations = set w.stations i t' }))
      ≡ record { answer = x; world = record { v = v'; p = p'; a = a'; r = r'; st = upd (station_at w) i t'; word = one_word } }
  put x v p a r t' ev ep ea er =
      λ k.
      record {
        answer = x;
        world = record { v = ev k; p = ep k; a = λ j. ea j k; r = λ j. er j k; st = λ j. read_set w.stations i t' (resting 0) inside j k; word = one_word };
      }

  -- only the station's record is written
  put_station_lem : (x : Answer) (t' : Station) → shows (turned x (put_station i t' w)) ≡ record { answer = x; world = World.put_station i t' (view w) }
  put_station_lem x t' = put x w.v w.p w.a w.r t' refl refl (λ j. refl) (λ j. refl)

  -- a station at rest, by the four tests of its rows
  abbrev at_rest : {Out : Type 0} → (Answer → Out) → Out → Bool → Bool → Bool → Bool → ℕ → Out
  at_rest still moved none reads other same kind =
      let y = w.v.second in
      cond none (still Idle) (cond reads (still (Ended y 1)) (cond other (still (Ended (handed kind 0 y) 1)) (cond same (still (Ended (handed kind 1 y) 1)) moved)))

  rest : (none reads other same : Bool) (kind : ℕ) (t' : Station)
      → shows (at_rest (λ x. turned x w) (turned Going (put_station i t' w)) none reads other same kind)
      ≡ at_rest (λ x. on_world.give x (view w)) (on_world.give Going (World.put_station i t' (view w))) none reads other same kind
  rest true reads other same kind t' = refl
  rest false true other same kind t' = refl
  rest false false true same kind t' = refl
  rest false false false true kind t' = refl
  rest false false false false kind t' = put_station_lem Going t'

  -- a row on the bench is the same row on its world
  module _ (u : Turn) (entries : length w.a ≡ 33) (answers : length w.r ≡ 33) (low : i < 33) where
    bridge : (q : Place) → reaching q i t < 33
        → shows (row on_bench q w i t u.kind u.a u.b) ≡ row on_world q (taking q (record { station = i; word = 0; kind = u.kind; a = u.a; b = u.b }) (view w)) i t u.kind u.a u.b
    unfolding reaching row
    bridge Rest h =
        rest (eqb u.kind 3) (eqb u.kind 0) (not (eqb w.v.second u.a)) (eqb u.a u.b) u.kind (begun (call u.kind u.a u.b) w.v.first t.c)
        ∙ ap (λ (word : ℕ → ℕ). row on_world Rest (record { v = (view w).v; p = (view w).p; a = (view w).a; r = (view w).r; st = (view w).st; word = word }) i t u.kind u.a u.b)
        (sym (upd_id one_word i 0 refl))
    bridge At11 h = put Going _ _ (set w.a i _) w.r _ refl refl (read_set w.a i _ (halves 0 0) (omega arith)) (λ j. refl)
    bridge At12 h = put Going _ _ w.a (set w.r i _) _ refl refl (λ j. refl) (read_set w.r i _ (halves 0 0) (omega arith))
    bridge At13 h = put Going _ _ w.a w.r _ refl (only_set (claim 0 0 0) w.p _) (λ j. refl) (λ j. refl)
    bridge At14 h = put Going _ _ w.a w.r _ refl (only_set (claim 0 0 0) w.p _) (λ j. refl) (λ j. refl)
    bridge At15 h = put_station_lem Going _
    bridge At16 h = put_station_lem Going _
    bridge At18 h = put Going _ _ w.a (set w.r t.saw.pid _) _ refl refl (λ j. refl) (read_set w.r t.saw.pid _ (halves 0 0) (omega arith))
    bridge At19 h = put Going _ _ w.a w.r _ (only_set (halves 0 0) w.v _) refl (λ j. refl) (λ j. refl)
    bridge At20 h = put_station_lem _ _

-- what a turn of a bench shows
abbrev pub events_in : Bench → Turn → Answer → List Event
events_in w u x = events_of one_word (station_at w) w.n w.v (of_word u) x

-- a row keeps the bench's shape
rest_shape : {n : ℕ} (w : Bench) (i : ℕ) (t' : Station) (none reads other same : Bool) (x y z : Answer) → Shape n w
    → Shape n (cond none (turned Idle w) (cond reads (turned x w) (cond other (turned y w) (cond same (turned z w) (turned Going (put_station i t' w)))))).bench
rest_shape w i t' true reads other same x y z s = s
rest_shape w i t' false true other same x y z s = s
rest_shape w i t' false false true same x y z s = s
rest_shape w i t' false false false true x y z s = s
rest_shape w i t' false false false false x y z s = put_shape w i t' s

row_shape : {n : ℕ} (q : Place) (w : Bench) (i : ℕ) (t : Station) (kind a b : ℕ) → Shape n w → Shape n (row on_bench q w i t kind a b).bench
unfolding row
row_shape Rest w i t kind a b s =
    rest_shape w i (begun (call kind a b) w.v.first t.c) (eqb kind 3) (eqb kind 0) (not (eqb w.v.second a)) (eqb a b) (Ended w.v.second 1)
    (Ended (handed kind 0 w.v.second) 1) (Ended (handed kind 1 w.v.second) 1) s
row_shape At11 w i t kind a b s =
    let p = put_shape w i (grown t) s in
    (p.0, (length-set w.a i _ ∙ s.1.0, p.1.1))
row_shape At12 w i t kind a b s =
    let p = put_shape w i (goes t At13) s in
    (p.0, (p.1.0, (length-set w.r i _ ∙ s.1.1.0, p.1.1.1)))
row_shape At13 w i t kind a b s = put_shape w i (goes t At14) s
row_shape At14 w i t kind a b s = put_shape w i (goes t At15) s
row_shape At15 w i t kind a b s = put_shape w i _ s
row_shape At16 w i t kind a b s = put_shape w i _ s
row_shape At18 w i t kind a b s =
    let p = put_shape w i (goes t At19) s in
    (p.0, (p.1.0, (length-set w.r t.saw.pid _ ∙ s.1.1.0, p.1.1.1)))
row_shape At19 w i t kind a b s = put_shape w i (goes t At20) s
row_shape At20 w i t kind a b s = put_shape w i (resting t.c) s

pub turn_shape : {n : ℕ} (w : Bench) (u : Turn) → Shape n w → Shape n (turn_by w u).bench
turn_shape {n} w u s =
    let i = u.station in
    by_turn (λ x. Shape n x.bench) w u (λ number. s) (λ k. row_shape (station_at w i).place w i (station_at w i) u.kind u.a u.b s)

-- a turn with the outcome x: its events fit what was watched, and lead on to its bench
pub record Follows (m : Watcher) (w : Bench) (u : Turn) (x : Turned) : Type 0 where
  pub good : Good m (events_in w u x.answer)
  pub inv : Inv w.n (view x.bench) (watched m (events_in w u x.answer))
  pub shape : Shape w.n x.bench

pub follows : {m : Watcher} {w : Bench} → Shape w.n w → Inv w.n (view w) m → (u : Turn) → Follows m w u (turn_by w u)
unfolding events_of points Good watched World.world_turn
follows {m} {w} s h u =
    let i = u.station in
    let t = station_at w i in
    by_turn (Follows m w u) w u (λ number. record { good = tt; inv = h; shape = s })
    (λ k.
    let f = facts w k.is_sound in
    let inside : i < 33 = omega (arith, k.high, f.head.0.1.0) in
    let e = bridge w i (omega (arith, s.1.1.1)) u s.1.0 s.1.1.0 inside t.place (within_at w i k.is_sound inside) in
    let r = subst⁻¹ (λ (x : Stepped). Good m (events_in w u x.answer) × Inv w.n x.world (watched m (events_in w u x.answer))) e (turn h (of_word u) k.low k.high) in
    record { good = r.0; inv = r.1; shape = row_shape t.place w i t u.kind u.a u.b s })

-- the same at every place
pub everywhere : {X : Type 0} (d : X) (k i : ℕ) → get_or (replicate k d) i d ≡ d
everywhere d zero i = refl
everywhere d (suc k) zero = refl
everywhere d (suc k) (suc i) = everywhere d k i

-- a fresh bench is a fresh world
only_halves : (x : ℕ) → only (halves 0 0) (halves 0 x) ≡ (λ z. halves 0 (only 0 x z))
only_halves x = λ k z. at (eqb z 0) k
  where
    at : (t : Bool) → cond t (halves 0 x) (halves 0 0) ≡ halves 0 (cond t x 0)
    at true = refl
    at false = refl

only_claims : only (claim 0 0 0) (claim 0 0 0) ≡ (λ z. claim 0 0 0)
only_claims = λ k z. at (eqb z 0) k
  where
    at : (t : Bool) → cond t (claim 0 0 0) (claim 0 0 0) ≡ claim 0 0 0
    at true = refl
    at false = refl

pub begins_fresh : (x n : ℕ) → Inv n (view (blank x n)) (watching (only 0 x))
begins_fresh x n =
    subst⁻¹ (λ (w : World). Inv n w (watching (only 0 x)))
    (λ k.
    record {
      v = only_halves x k;
      p = only_claims k;
      a = λ i. everywhere (halves 0 0) 33 i k;
      r = λ i. everywhere (halves 0 0) 33 i k;
      st = λ i. everywhere (resting 0) 33 i k;
      word = one_word;
    })
    (start n (only 0 x))
