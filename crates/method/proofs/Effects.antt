-- The effect lemmas: what the operations at 13, 14, 16, 18 and 19 do to the registers. Assumes nothing.
use mathlib.Core.Path.{◌≡◌, refl, sym, ap, ◌∙◌}
use mathlib.Core.Logic.{⊎_elim}
use mathlib.Core.Bool.{false, true≢false}
use Prim.Native.Nat.{ℕ, ◌+◌, ◌%◌, ◌≤◌, ◌<◌, max}
use native.Mathlib.Omega.{arith}
use native.Mathlib.Decide.{dec_le, dec_lt}
use borrow.Author.Tests.{leb-true, eq-eqb}
use lib.Dec.{leb}
use Rattle.rules.proofs.Facts.{either_way, and_both}
use Rattle.card.specs.declared.Halves.{Halves}
use Rattle.card.specs.declared.Claim.{Claim}
use Rattle.card.specs.Register.{halves, claim, max_write, max_claim, half_claim}
use Rattle.method.specs.declared.Place.TheVariants.{At13, At14, At16, At18, At19}
use Rattle.method.specs.declared.Station.{Station}
use Rattle.method.specs.Record.{num}
use Rattle.method.specs.Table.{agrees}
use Rattle.method.specs.World.{World}
use Rattle.method.proofs.Places.{not_behind}
use Rattle.method.proofs.Kept.{Contends, Saw, Kept, stands_at}
use Rattle.method.proofs.Step.{RStep, Raises, PStep, keeps, wins, opens}

-- c, which was read at 15 from the P of word z, is P as it stands, and the call that it names is in the open contest
pub record Latest (w : World) (z : ℕ) (c : Claim) : Type 0 where
  pub same : c ≡ w.p z
  pub full : c.seq ≡ (w.v z).first + 2
  pub word : w.word c.pid ≡ z
  pub contends : Contends (w.v z) c (w.st c.pid)
  pub count : (w.a c.pid).first ≡ c.c
  pub returns : (w.r c.pid).first ≡ c.c

-- a turn of station j; z is its word, v and p that word's registers, c and e what it has read
module _ {n : ℕ} {w : World} (k : Kept n w) (j : ℕ) where
  abbrev t : Station
  t = w.st j

  abbrev z : ℕ
  z = w.word j

  abbrev v : Halves
  v = w.v z

  abbrev p : Claim
  p = w.p z

  abbrev c : Claim
  c = t.saw

  -- 13 claims the version that V has, or does nothing
  pub effect_13 : t.place ≡ At13 → PStep w z v p (max_claim p (t.s + 1) j t.c)
  effect_13 e =
      let g = k.words z in
      let d = (stands_at k j e).called in
      either_way (leb p.seq (t.s + 1))
      (λ b.
      let le = leb-true p.seq (t.s + 1) b in
      rw b
      (opens
      (record {
        before = omega (arith, d);
        grows = le;
        low = omega (arith, d, g);
        high = omega (arith, d);
        word = refl;
        contends = record { far = omega (arith, ap num e); version = omega (arith, d, g); count = refl };
      })))
      (λ b. rw b (keeps refl))

  -- 14 closes the contest for the version that V has, or does nothing
  pub effect_14 : t.place ≡ At14 → PStep w z v p (half_claim p (t.s + 2))
  effect_14 e =
      let g = k.words z in
      let d = (stands_at k j e).called in
      let claims = (stands_at k j e).claims in
      elim (dec_le (t.s + 2) p.seq) [
        | yes l ↦ let high : max p.seq (t.s + 2) ≡ p.seq = omega arith in keeps (ap {B = Claim} (λ (x : ℕ). claim x p.pid p.c) high)
        | no l ↦ let o = g.contends (omega (arith, d, g)) in
            opens
            (record {
              before = omega (arith, d);
              grows = omega arith;
              low = omega (arith, d, g);
              high = omega (arith, d);
              word = g.word (omega (arith, d, g));
              contends = record { far = o.far; version = o.version; count = o.count };
            })
      ]

  -- an even version above V's is that of the open contest
  pub latest : Saw v p (w.a c.pid) (w.r c.pid) t.s c → c.seq % 2 ≡ 0 → v.first < c.seq → Latest w z c
  latest h even up =
      let g = k.words z in
      let same : c ≡ p = ⊎_elim (λ l. absurd (omega (arith, g))) (λ e. e) (h.claimed even).latest in
      let o : Contends v c (w.st c.pid) = rw same (g.contends (omega (arith, h.upto))) in
      let x = k.stations c.pid in
      record {
        same = same;
        full = omega (arith, g, h.upto);
        word = ap (λ (x : Claim). w.word x.pid) same ∙ g.word (omega (arith, h.upto));
        contends = o;
        count = x.count ∙ o.count;
        returns = omega (arith, x.returns, o.count, not_behind (w.st c.pid).place o.far);
      }

  -- at 16 the test fails only for a version that V has left behind
  pub effect_16 : t.place ≡ At16 → agrees c (w.a c.pid) ≡ false → t.s + 2 ≤ v.first
  effect_16 e differs =
      let g = k.words z in
      let d = (stands_at k j e).called in
      let b = (stands_at k j e).saw in
      elim (dec_lt t.s v.first) [
        | yes l ↦ omega (arith, d, g)
        | no l ↦ let even : c.seq % 2 ≡ 0 = omega (arith, d, g, b.from, b.upto) in
            let o = latest b even (omega (arith, d, b.from)) in
            let passes = and_both (eq-eqb (c.seq % 2) 0 even) (eq-eqb c.c (w.a c.pid).first (sym o.count)) in
            absurd (true≢false (sym passes ∙ differs))
      ]

  -- 18 writes R for the call that P names, or changes nothing
  pub effect_18 : t.place ≡ At18
      → RStep c.pid (w.v (w.word c.pid)) (w.p (w.word c.pid)) (w.r c.pid) (max_write (w.r c.pid) t.entry.first 1)
  effect_18 e =
      let b = (stands_at k j e).saw in
      let d = (stands_at k j e).got in
      let f = b.claimed d.even in
      either_way (leb (w.r c.pid).first t.entry.first)
      (λ x.
      let le = leb-true (w.r c.pid).first t.entry.first x in
      let same : (w.r c.pid).first ≡ t.entry.first = omega (arith, f.counted, d.agreed) in
      rw x
      (elim (dec_le c.seq v.first) [
        | yes l ↦ let one = f.told l (omega (arith, d.agreed)) in keeps (λ i. halves (sym same i) (sym one i))
        | no l ↦ let o = latest b d.even (omega arith) in rw (o.word, ← o.same) (wins (sym same) refl o.full refl)
      ]))
      (λ x. rw x (keeps refl))

  -- 19 leaves V as it was where the version read is not above V's
  pub effect_19 : t.place ≡ At19 → c.seq ≤ v.first → max_write v c.seq t.entry.second ≡ v
  effect_19 e low =
      either_way (leb v.first c.seq)
      (λ x.
      let same : c.seq ≡ v.first = omega (arith, leb-true v.first c.seq x) in
      let value = (stands_at k j e).got.old same in
      rw x (λ i. halves (same i) (value i)))
      (λ x. rw x)

  -- and raises V for the call that P names where it is
  pub effect_raise : t.place ≡ At19 → v.first < c.seq → Raises w v (halves c.seq t.entry.second) p
  effect_raise e up =
      let h = stands_at k j e in
      let o = latest h.saw h.got.even up in
      rw (← o.same) (record { version = refl; next = o.full; told = h.tells o.returns; count = o.count; value = h.got.new o.count })
