-- The rows that show nothing, 11 to 19, lead on. Assumes nothing.
use mathlib.Core.Path.{◌≡◌, refl, sym, ap, ◌∙◌, subst⁻¹}
use mathlib.Core.List.{[]}
use Prim.Native.Nat.{ℕ, ◌+◌, ◌%◌, ◌≤◌}
use native.Mathlib.Omega.{arith}
use borrow.Author.Tests.{leb-true, leb-false, eqb-true}
use lib.Dec.{leb, eqb}
use Rattle.rules.proofs.Facts.{either_way, and_left, and_right}
use Rattle.card.specs.declared.Halves.{Halves}
use Rattle.card.specs.declared.Claim.{Claim}
use Rattle.card.specs.Register.{halves, max_write, max_claim, half_claim}
use Rattle.method.specs.declared.Place.{Place}
use Rattle.method.specs.declared.Place.TheVariants.{At11, At12, At13, At14, At15, At16, At18, At19, At20}
use Rattle.method.specs.declared.Station.{Station}
use Rattle.method.specs.Record.{num}
use Rattle.method.specs.Table.{sees, goes, grown, agrees, row11, row12, row13, row14, row15, row16, row18, row19}
use Rattle.method.specs.Update.{upd}
use Rattle.method.specs.World.{World, put_registers, put_station, on_world}
use Rattle.method.proofs.Upd.{upd_same, upd_other, upd_all, upd_id}
use Rattle.method.proofs.Kept.{StandsIn, Kept, stands_at}
use Rattle.method.proofs.Step.{AStep, RStep, PStep, Step, keeps, grows, none}
use Rattle.method.proofs.Stay.{stands_stays, moved}
use Rattle.method.proofs.Seen.{Next, late_phase, phase_stays, silent}
use Rattle.method.proofs.Moves.{to12, to13, to14, to15, to16, to18, past18, to19, to20}
use Rattle.method.proofs.Effects.{effect_13, effect_14, effect_16, effect_18, effect_19}

-- a max-write leaves at least what it writes
claim_low : (p : Claim) (f i c : ℕ) → f ≤ (max_claim p f i c).seq
claim_low p f i c =
    either_way (leb p.seq f) (λ e. rw e (omega arith)) (λ e. let l = leb-false p.seq f e in rw e (omega arith))

-- the first half stays where it is not below what is written
write_high : (r : Halves) (f g : ℕ) → f ≤ r.first → (max_write r f g).first ≡ r.first
write_high r f g h = either_way (leb r.first f) (λ e. rw e (omega (arith, leb-true r.first f e))) (λ e. rw e)

-- where the first half is what was written, so is the second
write_same : (r : Halves) (f g : ℕ) → (max_write r f g).first ≡ f → (max_write r f g).second ≡ g
write_same r f g =
    either_way (leb r.first f) (λ e. rw e (λ _. refl)) (λ e. rw e (λ same. absurd (omega (arith, leb-false r.first f e))))

-- a turn of station j, z being its word
module _ {n : ℕ} {w : World} (k : Kept n w) (j : ℕ) where
  abbrev t : Station
  t = w.st j

  abbrev z : ℕ
  z = w.word j

  abbrev Silent : World → Type 0
  Silent w' = Next n w [] w'

  pub silent_11 : t.place ≡ At11 → Silent (row11 on_world w j t).world
  silent_11 e =
      let new = halves (t.c + 1) t.call.b in
      let same = upd_same w.a j new in
      let h = stands_at k j e in
      let s : Step w w.v w.p (upd w.a j new) w.r =
      record {
        v = λ y. keeps refl;
        p = λ y. keeps refl;
        a = upd_all w.a j new (λ i x. AStep (w.r i) (w.a i) x) (grows (omega (arith, h.returns))) (λ i _. keeps refl);
        r = λ i. keeps refl;
      } in
      record {
        leads = silent k s (λ _. refl) j (grown t) (λ _ _. refl) (rw e);
        kept =
            moved k s j (grown t) (λ o. absurd (omega (arith, o.far, ap num e))) (λ i ne. (upd_other w.a j new i ne, refl))
            (to12 (ap (λ (x : Halves). x.first) same) (ap (λ (x : Halves). x.second) same) h);
      }

  pub silent_12 : t.place ≡ At12 → Silent (row12 on_world w j t).world
  silent_12 e =
      let new = halves t.c 0 in
      let same = upd_same w.r j new in
      let h = stands_at k j e in
      let s : Step w w.v w.p w.a (upd w.r j new) =
      record {
        v = λ y. keeps refl;
        p = λ y. keeps refl;
        a = λ i. keeps refl;
        r = upd_all w.r j new (λ i x. RStep i (w.v (w.word i)) (w.p (w.word i)) (w.r i) x) (grows (omega (arith, h.returns))) (λ i _. keeps refl);
      } in
      let others : (i : ℕ) → (i ≡ j → ⊥) → (upd w.r j new i).first ≡ (w.r i).first =
      λ i ne. ap (λ (x : Halves). x.first) (upd_other w.r j new i ne) in
      record {
        leads = silent k s (λ _. refl) j (goes t At13) others (rw (e, same));
        kept =
            moved k s j (goes t At13) (λ o. absurd (omega (arith, o.far, ap num e))) (λ i ne. (refl, others i ne))
            (to13 (ap (λ (x : Halves). x.first) same) (ap (λ (x : Halves). x.second) same) h);
      }

  -- from 13 on V and A stay, and so do the counts of R
  module _ {p' : ℕ → Claim} {r' : ℕ → Halves} (s : Step w w.v p' w.a r') (counts : (i : ℕ) → (r' i).first ≡ (w.r i).first) where
    abbrev w' : World
    w' = put_registers w.v p' w.a r' w

    stays : {q : Place} → t.place ≡ q → StandsIn n w' q j t
    stays {q} e = stands_stays k s j q t refl (counts j) (stands_at k j e)

    goes_on : (q : Place) (saw : Claim) (e : Halves) → 13 ≤ num t.place → 13 ≤ num q → StandsIn n w' q j (sees t q saw e) → Silent (put_station j (sees t q saw e) w')
    goes_on q saw e low far h =
        let t' = sees t q saw e in
        record {
          leads =
              silent k s (λ _. refl) j t' (λ i _. counts i)
              (late_phase q z (w.v z) (r' j) t t.place far low ∙ phase_stays k s (λ _. refl) j (counts j));
          kept = moved k s j t' (λ o. record { far = far; version = o.version; count = o.count }) (λ i _. (refl, counts i)) h;
        }

  -- 13 and 14 write P of the station's word
  writes_p : {x : Claim} → PStep w z (w.v z) (w.p z) x → Step w w.v (upd w.p z x) w.a w.r
  writes_p {x} d =
      record {
        v = λ y. keeps refl;
        p = upd_all w.p z x (λ y p. PStep w y (w.v y) (w.p y) p) d (λ y _. keeps refl);
        a = λ i. keeps refl;
        r = λ i. keeps refl;
      }

  pub silent_13 : t.place ≡ At13 → Silent (row13 on_world w j t).world
  silent_13 e =
      let s = writes_p (effect_13 k j e) in
      let far = ap num e in
      let put = ap (λ (p : Claim). p.seq) (upd_same w.p z (max_claim (w.p z) (t.s + 1) j t.c)) in
      goes_on s (λ _. refl) At14 t.saw t.entry (omega arith) (omega arith)
      (to14 (omega (arith, claim_low (w.p z) (t.s + 1) j t.c)) (stays s (λ _. refl) e))

  pub silent_14 : t.place ≡ At14 → Silent (row14 on_world w j t).world
  silent_14 e =
      let s = writes_p (effect_14 k j e) in
      let far = ap num e in
      let put = ap (λ (p : Claim). p.seq) (upd_same w.p z (half_claim (w.p z) (t.s + 2))) in
      goes_on s (λ _. refl) At15 t.saw t.entry (omega arith) (omega arith) (to15 (omega arith) (stays s (λ _. refl) e))

  pub silent_15 : t.place ≡ At15 → Silent (row15 on_world w j t).world
  silent_15 e =
      let h = stands_at k j e in
      let far = ap num e in
      let closes = h.closes in
      goes_on (none w) (λ _. refl) At16 (w.p z) t.entry (omega arith) (omega arith) (to16 (λ even. (k.words z).claimed even (omega arith)) h)

  pub silent_16 : t.place ≡ At16 → Silent (row16 on_world w j t).world
  silent_16 e =
      let h = stands_at k j e in
      let far = ap num e in
      let c = t.saw in
      let x = w.a c.pid in
      either_way (agrees c x)
      (λ b.
      let even = eqb-true (c.seq % 2) 0 (and_left (eqb (c.seq % 2) 0) (eqb c.c x.first) b) in
      let same = eqb-true c.c x.first (and_right (eqb (c.seq % 2) 0) (eqb c.c x.first) b) in
      rw b
      (goes_on (none w) (λ _. refl) At18 c x (omega arith) (omega arith)
      (to18 (record { even = even; agreed = same; new = λ _. refl; old = λ up. (h.saw.claimed even).value up (sym same) }) h)))
      (λ b. rw b (goes_on (none w) (λ _. refl) At20 c x (omega arith) (omega arith) (past18 x (effect_16 k j e b) h)))

  pub silent_18 : t.place ≡ At18 → Silent (row18 on_world w j t).world
  silent_18 e =
      let h = stands_at k j e in
      let far = ap num e in
      let i = t.saw.pid in
      let f = t.entry.first in
      let x = max_write (w.r i) f 1 in
      let s : Step w w.v w.p w.a (upd w.r i x) =
      record {
        v = λ y. keeps refl;
        p = λ y. keeps refl;
        a = λ i. keeps refl;
        r = upd_all w.r i x (λ i x. RStep i (w.v (w.word i)) (w.p (w.word i)) (w.r i) x) (effect_18 k j e) (λ i _. keeps refl);
      } in
      let agreed = h.got.agreed in
      let counted = (h.saw.claimed h.got.even).counted in
      let counts = upd_all w.r i x (λ i x. x.first ≡ (w.r i).first) (write_high (w.r i) f 1 (omega arith)) (λ i _. refl) in
      goes_on s counts At19 t.saw t.entry (omega arith) (omega arith)
      (to19 (rw (upd_same w.r i x, agreed) (write_same (w.r i) f 1)) (stays s counts e))

  -- 19 where V is not raised
  pub silent_19 : t.place ≡ At19 → t.saw.seq ≤ (w.v z).first → Silent (row19 on_world w j t).world
  silent_19 e low =
      let h = stands_at k j e in
      let far = ap num e in
      let from = h.saw.from in
      subst⁻¹ (λ (v : ℕ → Halves). Silent (put_station j (goes t At20) (put_registers v w.p w.a w.r w)))
      (upd_id w.v z (max_write (w.v z) t.saw.seq t.entry.second) (effect_19 k j e low))
      (goes_on (none w) (λ _. refl) At20 t.saw t.entry (omega arith) (omega arith) (to20 (omega arith) h))
