-- The invariant of the method, over the registers and the stations' records alone: no history, and claims read registers only. Assumes nothing.
use mathlib.Core.Path.{◌≡◌, subst}
use mathlib.Core.Logic.{◌⊎◌}
use Prim.Native.Nat.{ℕ, ◌+◌, ◌%◌, ◌≤◌, ◌<◌}
use Rattle.card.specs.declared.Halves.{Halves}
use Rattle.card.specs.declared.Claim.{Claim}
use Rattle.method.specs.declared.Place.{Place}
use Rattle.method.specs.declared.Station.{Station}
use Rattle.method.specs.Record.{num}
use Rattle.method.specs.World.{World}
use Rattle.method.proofs.Places.{At, From, behind}

-- c is a copy of P with an even version: it names the call that wins, or won, that version. a and r are A and R of its station
pub record Claimed (v : Halves) (p : Claim) (a r : Halves) (c : Claim) : Type 0 where
  -- P has gone on, or still says so
  pub latest : (c.seq < p.seq) ⊎ (c ≡ p)
  -- R has the call's count or a later one; once V has the version, R says that the call won
  pub counted : c.c ≤ r.first
  pub told : c.seq ≤ v.first → r.first ≡ c.c → r.second ≡ 1
  -- while V has the version, A has V's value if it has the call's count
  pub value : c.seq ≡ v.first → a.first ≡ c.c → a.second ≡ v.second

-- the station that an open P names is in the contest for V's version; t is its record
pub record Contends (v : Halves) (p : Claim) (t : Station) : Type 0 where
  pub far : 13 ≤ num t.place
  pub version : t.s ≡ v.first
  pub count : t.c ≡ p.c

-- station i, one of n, is in a set or swap whose a was V's value at its version
pub record Called (n : ℕ) (v : Halves) (i : ℕ) (t : Station) : Type 0 where
  pub low : 1 ≤ i
  pub high : i ≤ n
  pub sets : t.call.kind ≡ 0 → ⊥
  pub even : t.s % 2 ≡ 0
  pub begun : t.s ≤ v.first
  pub differ : t.call.a ≡ t.call.b → ⊥
  pub finds : t.s ≡ v.first → t.call.a ≡ v.second

-- a call that R says won is past its point, or is the one that P names
abbrev pub Awaits : Halves → Claim → Halves → ℕ → ℕ → Type 0
Awaits v p r i s = (r.second ≡ 0) ⊎ ((s < v.first) ⊎ ((p.seq ≡ s + 2) × (p.pid ≡ i)))

-- what was read at 15
pub record Saw (v : Halves) (p : Claim) (a r : Halves) (s : ℕ) (c : Claim) : Type 0 where
  pub from : s + 2 ≤ c.seq
  pub upto : c.seq ≤ p.seq
  pub claimed : c.seq % 2 ≡ 0 → Claimed v p a r c

-- what was read at 16, where the test passed: A's value while A has the call's count, and V's while V has the version
pub record Got (v a : Halves) (c : Claim) (e : Halves) : Type 0 where
  pub even : c.seq % 2 ≡ 0
  pub agreed : c.c ≡ e.first
  pub new : a.first ≡ c.c → a.second ≡ e.second
  pub old : c.seq ≡ v.first → e.second ≡ v.second

-- station i with the record t at place q; v and p are the registers of its word
pub record Stands (n : ℕ) (v : Halves) (p : Claim) (a r : ℕ → Halves) (q : Place) (i : ℕ) (t : Station) : Type 0 where
  -- its own entries of A and R: the count, and from 12 on what it wants to write
  pub count : (a i).first ≡ t.c
  pub returns : (r i).first + behind q ≡ t.c
  pub value : From 12 q ((a i).second ≡ t.call.b)
  -- its call, and what R tells it
  pub called : From 11 q (Called n v i t)
  pub awaits : From 13 q (Awaits v p (r i) i t.s)
  -- it has claimed its version at 13 and closed the contest at 14
  pub claims : From 14 q (t.s + 1 ≤ p.seq)
  pub closes : From 15 q (t.s + 2 ≤ p.seq)
  -- what it read, and has told R at 18
  pub saw : From 16 q (Saw v p (a t.saw.pid) (r t.saw.pid) t.s t.saw)
  pub got : At 18 19 q (Got v (a t.saw.pid) t.saw t.entry)
  pub tells : At 19 19 q ((r t.saw.pid).first ≡ t.saw.c → (r t.saw.pid).second ≡ 1)
  -- at 20 its version is over
  pub past : From 20 q (t.s + 2 ≤ v.first)

-- word z, whose registers are v and p: P is at most a version ahead, and names a station in the contest where it is ahead at all
pub record WordStands (w : World) (z : ℕ) (v : Halves) (p : Claim) : Type 0 where
  pub even : v.first % 2 ≡ 0
  pub low : v.first ≤ p.seq
  pub high : p.seq ≤ v.first + 2
  pub word : v.first < p.seq → w.word p.pid ≡ z
  pub contends : v.first < p.seq → Contends v p (w.st p.pid)
  pub claimed : p.seq % 2 ≡ 0 → 0 < p.seq → Claimed v p (w.a p.pid) (w.r p.pid) p

abbrev pub StandsIn : ℕ → World → Place → ℕ → Station → Type 0
StandsIn n w q i t = Stands n (w.v (w.word i)) (w.p (w.word i)) w.a w.r q i t

pub record Kept (n : ℕ) (w : World) : Type 0 where
  pub words : (z : ℕ) → WordStands w z (w.v z) (w.p z)
  pub stations : (i : ℕ) → StandsIn n w (w.st i).place i (w.st i)

-- what is known of a station where it stands
pub stands_at : {n : ℕ} {w : World} → Kept n w → (i : ℕ) {q : Place} → (w.st i).place ≡ q → StandsIn n w q i (w.st i)
stands_at {n} {w} k i {q} e = subst (λ (q : Place). StandsIn n w q i (w.st i)) e (k.stations i)
