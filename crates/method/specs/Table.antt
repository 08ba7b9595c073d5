-- Document 01, "One turn, one register operation": the step table, a definition for each row, over anything that holds the registers and the stations.
-- `w` is what holds them, `i` the station whose turn it is and `t` its record. A row hands back the answer and the new state. Assumes nothing.
use Rattle.std.specs.Prelude.{Bool, cond, not, ◌&&◌, ℕ, ◌+◌, ◌%◌, eqb}
use Rattle.card.specs.declared.Halves.{Halves}
use Rattle.card.specs.declared.Claim.{Claim}
use Rattle.card.specs.Register.{halves, claim, max_write, max_claim, half_claim}
use Rattle.method.specs.declared.Place.{Place}
use Rattle.method.specs.declared.Place.TheVariants.{Rest, At11, At12, At13, At14, At15, At16, At18, At19, At20}
use Rattle.method.specs.declared.Call.{Call}
use Rattle.method.specs.declared.Station.{Station}
use Rattle.method.specs.declared.Answer.{Answer}
use Rattle.method.specs.declared.Answer.TheVariants.{Idle, Going, Ended}
use Rattle.method.specs.Record.{call, station, resting}

-- how a turn of station i reads and writes: V and P, the entries of A and R, a station's record; and what it hands back
pub record Access (W Out : Type 0) : Type 0 where
  pub v : W → ℕ → Halves
  pub p : W → ℕ → Claim
  pub a : W → ℕ → Halves
  pub r : W → ℕ → Halves
  pub put_v : ℕ → Halves → W → W
  pub put_p : ℕ → Claim → W → W
  pub put_a : ℕ → Halves → W → W
  pub put_r : ℕ → Halves → W → W
  pub put_station : ℕ → Station → W → W
  pub give : Answer → W → Out

-- what a set or a swap hands back: its truth, or the value that its place 5 read
abbrev pub handed : ℕ → ℕ → ℕ → ℕ
handed kind truth read = cond (eqb kind 2) read truth

-- the station's record one own turn later, at place q
abbrev pub sees : Station → Place → Claim → Halves → Station
sees t q saw e = station q t.call t.s (t.own + 1) t.c saw e

abbrev pub goes : Station → Place → Station
goes t q = sees t q t.saw t.entry

-- past place 5 of the call o with the version s
abbrev pub begun : Call → ℕ → ℕ → Station
begun o s c = station At11 o s 1 c (claim 0 0 0) (halves 0 0)

-- the count grown
abbrev pub grown : Station → Station
grown t = station At12 t.call t.s (t.own + 1) (t.c + 1) t.saw t.entry

-- seq even and cp = ca
abbrev pub agrees : Claim → Halves → Bool
agrees saw e = eqb (saw.seq % 2) 0 && eqb saw.c e.first

abbrev pub after16 : Claim → Halves → Place
after16 saw e = cond (agrees saw e) At18 At20

module _ {W Out : Type 0} (on : Access W Out) where
  -- 2: read V (kind read); ends with val. The station stays at rest
  abbrev pub row2 : W → ℕ → Out
  row2 w i = on.give (Ended (on.v w i).second 1) w

  -- 5: read V, s = seq (set, swap); val ≠ a: ends false; a = b: ends true; else 11
  abbrev pub row5 : W → ℕ → Station → ℕ → ℕ → ℕ → Out
  row5 w i t kind a b =
      cond (not (eqb (on.v w i).second a)) (on.give (Ended (handed kind 0 (on.v w i).second) 1) w)
      (cond (eqb a b) (on.give (Ended (handed kind 1 (on.v w i).second) 1) w)
      (on.give Going (on.put_station i (begun (call kind a b) (on.v w i).first t.c) w)))

  -- 11: c grows by 1, write A[id] = (c, b)
  abbrev pub row11 : W → ℕ → Station → Out
  row11 w i t = on.give Going (on.put_station i (grown t) (on.put_a i (halves (t.c + 1) t.call.b) w))

  -- 12: write R[id] = (c, 0)
  abbrev pub row12 : W → ℕ → Station → Out
  row12 w i t = on.give Going (on.put_station i (goes t At13) (on.put_r i (halves t.c 0) w))

  -- 13: max-write P (s+1, id, c)
  abbrev pub row13 : W → ℕ → Station → Out
  row13 w i t = on.give Going (on.put_station i (goes t At14) (on.put_p i (max_claim (on.p w i) (t.s + 1) i t.c) w))

  -- 14: half-max P s+2
  abbrev pub row14 : W → ℕ → Station → Out
  row14 w i t = on.give Going (on.put_station i (goes t At15) (on.put_p i (half_claim (on.p w i) (t.s + 2)) w))

  -- 15: read P: seq, pid, cp
  abbrev pub row15 : W → ℕ → Station → Out
  row15 w i t = on.give Going (on.put_station i (sees t At16 (on.p w i) t.entry) w)

  -- 16: read A[pid]: ca, val; seq even and cp = ca: 18; else 20
  abbrev pub row16 : W → ℕ → Station → Out
  row16 w i t =
      let e = on.a w t.saw.pid in
      on.give Going (on.put_station i (sees t (after16 t.saw e) t.saw e) w)

  -- 18: max-write R[pid] (ca, 1)
  abbrev pub row18 : W → ℕ → Station → Out
  row18 w i t =
      on.give Going
      (on.put_station i (goes t At19) (on.put_r t.saw.pid (max_write (on.r w t.saw.pid) t.entry.first 1) w))

  -- 19: max-write V (seq, val)
  abbrev pub row19 : W → ℕ → Station → Out
  row19 w i t = on.give Going (on.put_station i (goes t At20) (on.put_v i (max_write (on.v w i) t.saw.seq t.entry.second) w))

  -- 20: read R[id]; ends with ret. A swap's place 5 read a
  abbrev pub row20 : W → ℕ → Station → Out
  row20 w i t =
      on.give (Ended (handed t.call.kind (on.r w i).second t.call.a) (t.own + 1)) (on.put_station i (resting t.c) w)

  -- a station at rest begins the offered call with its first operation; with none the turn is idle and changes nothing
  abbrev pub row_rest : W → ℕ → Station → ℕ → ℕ → ℕ → Out
  row_rest w i t kind a b = cond (eqb kind 3) (on.give Idle w) (cond (eqb kind 0) (row2 w i) (row5 w i t kind a b))

  -- the operation of a place
  unfoldable pub row : Place → W → ℕ → Station → ℕ → ℕ → ℕ → Out
  row Rest w i t kind a b = row_rest w i t kind a b
  row At11 w i t kind a b = row11 w i t
  row At12 w i t kind a b = row12 w i t
  row At13 w i t kind a b = row13 w i t
  row At14 w i t kind a b = row14 w i t
  row At15 w i t kind a b = row15 w i t
  row At16 w i t kind a b = row16 w i t
  row At18 w i t kind a b = row18 w i t
  row At19 w i t kind a b = row19 w i t
  row At20 w i t kind a b = row20 w i t

  -- the operation of the place where the station stands
  abbrev pub row_at : W → ℕ → Station → ℕ → ℕ → ℕ → Out
  row_at w i t kind a b = row t.place w i t kind a b
