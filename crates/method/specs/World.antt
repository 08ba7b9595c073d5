-- The step table over functions of an index, with no limit on stations, words, counts or versions: V and P by word; A, R and the stations by station.
-- Assumes nothing.
use Rattle.std.specs.Prelude.{cond, ℕ}
use Rattle.card.specs.declared.Halves.{Halves}
use Rattle.card.specs.declared.Claim.{Claim}
use Rattle.card.specs.Register.{halves, claim}
use Rattle.method.specs.declared.Place.{Place}
use Rattle.method.specs.declared.Station.{Station}
use Rattle.method.specs.declared.Answer.{Answer}
use Rattle.method.specs.Record.{at_rest, resting}
use Rattle.method.specs.Table.{Access, row}
use Rattle.method.specs.Update.{upd}

-- `word` is the word of a station's call
pub record World : Type 0 where
  pub v : ℕ → Halves
  pub p : ℕ → Claim
  pub a : ℕ → Halves
  pub r : ℕ → Halves
  pub st : ℕ → Station
  pub word : ℕ → ℕ

-- the answer of a turn and the world after it
pub record Stepped : Type 0 where
  pub answer : Answer
  pub world : World

-- the registers of a world become v, p, a and r; its stations stay
abbrev pub put_registers : (ℕ → Halves) → (ℕ → Claim) → (ℕ → Halves) → (ℕ → Halves) → World → World
put_registers v p a r w = record { v = v; p = p; a = a; r = r; st = w.st; word = w.word }

abbrev pub put_station : ℕ → Station → World → World
put_station i t w = record { v = w.v; p = w.p; a = w.a; r = w.r; st = upd w.st i t; word = w.word }

abbrev pub put_word : ℕ → ℕ → World → World
put_word i z w = record { v = w.v; p = w.p; a = w.a; r = w.r; st = w.st; word = upd w.word i z }

-- a station has the V and P of its call's word
abbrev pub on_world : Access World Stepped
on_world =
    record {
      v = λ w i. w.v (w.word i);
      p = λ w i. w.p (w.word i);
      a = λ w i. w.a i;
      r = λ w i. w.r i;
      put_v = λ i v w. put_registers (upd w.v (w.word i) v) w.p w.a w.r w;
      put_p = λ i p w. put_registers w.v (upd w.p (w.word i) p) w.a w.r w;
      put_a = λ i e w. put_registers w.v w.p (upd w.a i e) w.r w;
      put_r = λ i e w. put_registers w.v w.p w.a (upd w.r i e) w;
      put_station = put_station;
      give = λ x w. record { answer = x; world = w };
    }

-- a turn is given a station and an offered call of a word
pub record WorldTurn : Type 0 where
  pub station : ℕ
  pub word : ℕ
  pub kind : ℕ
  pub a : ℕ
  pub b : ℕ

-- a station at rest takes the offered word first
abbrev pub taking : Place → WorldTurn → World → World
taking q u w = cond (at_rest q) (put_word u.station u.word w) w

-- a turn of a station at place q: the table's row
abbrev pub turn_at : Place → World → WorldTurn → Stepped
turn_at q w u = row on_world q (taking q u w) u.station (w.st u.station) u.kind u.a u.b

unfoldable pub world_turn : World → WorldTurn → Stepped
world_turn w u = turn_at (w.st u.station).place w u

-- every station at rest with count 0, all registers zero but V, which is (0, x) by word
abbrev pub fresh : (ℕ → ℕ) → World
fresh x =
    record {
      v = λ z. halves 0 (x z);
      p = λ z. claim 0 0 0;
      a = λ i. halves 0 0;
      r = λ i. halves 0 0;
      st = λ i. resting 0;
      word = λ i. 0;
    }
