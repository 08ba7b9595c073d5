-- What follows of a sound bench. Assumes nothing.
use mathlib.Core.Path.{◌≡◌, refl, ◌∙◌, sym, ap}
use mathlib.Core.Bool.{Bool, true, false, cond, not, true≢false, false≢true}
use Prim.Native.Nat.{ℕ, ◌+◌, ◌*◌, ◌^◌, ◌<◌}
use native.Mathlib.Omega.{arith}
use native.Mathlib.Nat.{mod-eq_of_lt}
use borrow.Author.Tests.{eqb-true, eq-eqb, not-false}
use lib.Dec.{eqb}
use lib.ListN.{get_or, set, length}
use lib.Seq.{get_or-set_same, get_or-set_other}
use Rattle.rules.specs.Test.{Facts}
use Rattle.card.specs.Register.{claim, halves}
use Rattle.card.specs.Word.{revision_a, claim_word}
use Rattle.method.specs.declared.Place.{Place}
use Rattle.method.specs.declared.Place.TheVariants.{Rest, At11, At12, At13, At14, At15, At16, At18, At19, At20}
use Rattle.method.specs.declared.Station.{Station}
use Rattle.method.specs.declared.Answer.{Answer}
use Rattle.method.specs.declared.Answer.TheVariants.{Idle, Going, Ended, Refused}
use Rattle.method.specs.Record.{at_rest, call, station, resting, told}
use Rattle.method.specs.Table.{handed, begun, grown, sees, goes, row}
use Rattle.bench.specs.declared.Bench.{Bench}
use Rattle.bench.specs.Record.{station_at, put_station, turned, on_bench}
use Rattle.bench.specs.Sound.{zero_but_count, sound}
use Rattle.bench.specs.Promise.{Turn, turn_by}
use Rattle.bench.proofs.Sounds.{facts}
use Rattle.bench.proofs.Clear.{by_turn}
use Rattle.picture.proofs.Drawn.{size-drawn}
use Rattle.promises.specs.Facts.{Shown, SoundFacts}

whole_word : (w : Bench) → sound w ≡ true → claim_word revision_a w.p ≡ w.p.seq * 2 ^ 32 + (w.p.pid * 2 ^ 16 + w.p.c)
whole_word w s =
    let f = (facts w s).head in
    let c : w.p.c < 2 ^ 16 = omega (arith, f.1.0.0) in
    let pid : w.p.pid < 2 ^ 16 = omega (arith, f.1.1.1.0.0, f.0.1.0) in
    rw (mod-eq_of_lt c, mod-eq_of_lt pid) refl

-- a station at rest whose record is zero in all but c
rest_place : (p : Place) → at_rest p ≡ true → p ≡ Rest
rest_place Rest e = refl
rest_place At11 e = absurd (false≢true e)
rest_place At12 e = absurd (false≢true e)
rest_place At13 e = absurd (false≢true e)
rest_place At14 e = absurd (false≢true e)
rest_place At15 e = absurd (false≢true e)
rest_place At16 e = absurd (false≢true e)
rest_place At18 e = absurd (false≢true e)
rest_place At19 e = absurd (false≢true e)
rest_place At20 e = absurd (false≢true e)

rests : (t : Station) → at_rest t.place ≡ true → Facts (zero_but_count t) → t ≡ resting t.c
rests t e f =
    let p = rest_place t.place e in
    let g = f.1.1.1.1.1 in
    λ j. station (p j) (call (f.1.0 j) (f.1.1.0 j) (f.1.1.1.0 j)) (f.1.1.1.1.0 j) (f.0 j) t.c (claim (g.0 j) (g.1.0 j) (g.1.1.0 j))
    (halves (g.1.1.1.0 j) (g.1.1.1.1.0 j))

-- an answer by which a call neither goes on nor ends, on the bench as it was
quiet : (w : Bench) (u : Turn) (p : Place) (x : Answer) → ((told x).case ≡ 1 → ⊥) → ((told x).case ≡ 2 → ⊥) → Shown w u p (turned x w)
quiet w u p x g e =
    record {
      begins = λ r n. absurd (g n);
      goes = λ r n. absurd (g n);
      others = λ j ne. refl;
      hands = λ r n. absurd (e n);
      at_once = λ r n. absurd (e n);
      ends = λ n. absurd (e n);
    }

module _ (w : Bench) (u : Turn) (inside : u.station < length w.stations) where
  abbrev i : ℕ
  i = u.station

  abbrev t : Station
  t = station_at w i

  -- the station's record is x in a bench with the registers v
  put : (v : Bench) (x : Station) → v.stations ≡ w.stations → station_at (put_station i x v) i ≡ x
  put v x q = ap (λ l. get_or (set l i x) i (resting 0)) q ∙ get_or-set_same w.stations i x (resting 0) inside

  elsewhere : (v : Bench) (x : Station) → v.stations ≡ w.stations → (j : ℕ) → (j ≡ i → ⊥) → station_at (put_station i x v) j ≡ station_at w j
  elsewhere v x q j ne = ap (λ l. get_or (set l i x) j (resting 0)) q ∙ get_or-set_other w.stations i j x (resting 0) ne

  goes_on : (p : Place) (v : Bench) (x : Station) → at_rest p ≡ false → v.stations ≡ w.stations → x.call ≡ t.call → Shown w u p (turned Going (put_station i x v))
  goes_on p v x e q c =
      record {
        begins = λ r n. absurd (true≢false (sym r ∙ e));
        goes = λ r n. ap (λ (z : Station). z.call) (put v x q) ∙ c;
        others = elsewhere v x q;
        hands = λ r n. absurd (omega arith);
        at_once = λ r n. absurd (omega arith);
        ends = λ n. absurd (omega arith);
      }

  -- a station at rest whose turn is idle, ends its call at once, or goes past place 5
  idles : Shown w u Rest (turned Idle w)
  idles = quiet w u Rest Idle (λ n. omega arith) (λ n. omega arith)

  at_once_lem : (r o : ℕ) → t ≡ resting t.c → (u.kind ≡ 2 → r ≡ w.v.second) → Shown w u Rest (turned (Ended r o) w)
  at_once_lem r o e q = record { begins = λ r n. absurd (omega arith); goes = λ r n. absurd (true≢false r); others = λ j ne. refl; hands = λ r n. absurd (true≢false r); at_once = λ r n s. q s; ends = λ n. e }

  from_rest : (none reads other same : Bool) (v y z : ℕ) → not (eqb w.v.second u.a) ≡ other → t ≡ resting t.c
      → (u.kind ≡ 2 → (v ≡ w.v.second) × ((y ≡ w.v.second) × (z ≡ w.v.second)))
      → Shown w u Rest
      (cond none (turned Idle w)
      (cond reads (turned (Ended v 1) w)
      (cond other (turned (Ended y 1) w) (cond same (turned (Ended z 1) w) (turned Going (put_station i (begun (call u.kind u.a u.b) w.v.first t.c) w))))))
  from_rest true reads other same v y z e r s = idles
  from_rest false true other same v y z e r s = at_once_lem v 1 r (λ q. (s q).0)
  from_rest false false true same v y z e r s = at_once_lem y 1 r (λ q. (s q).1.0)
  from_rest false false false true v y z e r s = at_once_lem z 1 r (λ q. (s q).1.1)
  from_rest false false false false v y z e r s =
      record {
        begins = λ q n. (
          eqb-true w.v.second u.a (not-false (eqb w.v.second u.a) e),
          ap (λ (z : Station). z.call) (put w (begun (call u.kind u.a u.b) w.v.first t.c) refl),
        );
        goes = λ q n. absurd (true≢false q);
        others = elsewhere w (begun (call u.kind u.a u.b) w.v.first t.c) refl;
        hands = λ q n. absurd (omega arith);
        at_once = λ q n. absurd (omega arith);
        ends = λ n. absurd (omega arith);
      }

  shown : (p : Place) → (at_rest p ≡ true → t ≡ resting t.c) → Shown w u p (row on_bench p w i t u.kind u.a u.b)
  unfolding row
  shown Rest r =
      from_rest (eqb u.kind 3) (eqb u.kind 0) (not (eqb w.v.second u.a)) (eqb u.a u.b) w.v.second (handed u.kind 0 w.v.second)
      (handed u.kind 1 w.v.second) refl (r refl) (λ s. (refl, (rw (eq-eqb u.kind 2 s), rw (eq-eqb u.kind 2 s))))
  shown At11 r = goes_on At11 _ (grown t) refl refl refl
  shown At12 r = goes_on At12 _ (goes t At13) refl refl refl
  shown At13 r = goes_on At13 _ (goes t At14) refl refl refl
  shown At14 r = goes_on At14 _ (goes t At15) refl refl refl
  shown At15 r = goes_on At15 _ (sees t At16 w.p t.entry) refl refl refl
  shown At16 r = goes_on At16 w _ refl refl refl
  shown At18 r = goes_on At18 _ (goes t At19) refl refl refl
  shown At19 r = goes_on At19 _ (goes t At20) refl refl refl
  shown At20 r =
      record {
        begins = λ q n. absurd (omega arith);
        goes = λ q n. absurd (omega arith);
        others = elsewhere w (resting t.c) refl;
        hands = λ q n e. rw (eq-eqb t.call.kind 2 e);
        at_once = λ q n e. absurd (false≢true q);
        ends = λ n. put w (resting t.c) refl;
      }

turn_shown : (w : Bench) (u : Turn) → length w.stations ≡ 33 → sound w ≡ true → Shown w u (station_at w u.station).place (turn_by w u)
turn_shown w u l s =
    let i = u.station in
    let t = station_at w i in
    let f = facts w s in
    by_turn (Shown w u t.place) w u
    (λ number. quiet w u t.place (Refused number) (λ n. omega arith) (λ n. omega arith))
    (λ k.
    let h : i < 33 = omega (arith, k.high, f.head.0.1.0) in
    shown w u (omega arith) t.place (λ e. rests t e (rw e at (f.station i h).stands.rest)))

pub sound_facts : SoundFacts
sound_facts = record { word = whole_word; size = λ w s. size-drawn w; turn = turn_shown }
