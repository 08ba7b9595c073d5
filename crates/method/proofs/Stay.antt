-- What stays known of every claim, station and word when the registers take a step. Assumes nothing.
use mathlib.Core.Path.{◌≡◌, refl, sym, ap, ◌∙◌, subst}
use mathlib.Core.Logic.{◌⊎◌, inl, inr, ⊎_elim}
use Prim.Native.Nat.{ℕ, ◌%◌, ◌≤◌, ◌<◌}
use native.Mathlib.Omega.{arith}
use native.Mathlib.Decide.{dec_lt}
use Rattle.card.specs.declared.Halves.{Halves}
use Rattle.card.specs.declared.Claim.{Claim}
use Rattle.method.specs.declared.Place.{Place}
use Rattle.method.specs.declared.Station.{Station}
use Rattle.method.specs.Record.{num}
use Rattle.method.specs.World.{World, put_registers, put_station}
use Rattle.method.proofs.Upd.{upd_all}
use Rattle.method.proofs.Places.{at_get, at_map, from_get, from-map, not_behind}
use Rattle.method.proofs.Kept.{Claimed, Contends, Called, Awaits, Saw, Got, StandsIn, WordStands, Kept}
use Rattle.method.proofs.Step.{AStep, RStep, VStep, PStep, Step, keeps, grows, wins, raises, opens}

module _ {n : ℕ} {w : World} {v' : ℕ → Halves} {p' : ℕ → Claim} {a' r' : ℕ → Halves} (k : Kept n w) (s : Step w v' p' a' r') where
  abbrev w' : World
  w' = put_registers v' p' a' r' w

  abbrev OfV : ℕ → Type 0
  OfV z = VStep w (w.v z) (v' z) (w.p z) (p' z)

  abbrev OfP : ℕ → Type 0
  OfP z = PStep w z (w.v z) (w.p z) (p' z)

  abbrev OfA : ℕ → Type 0
  OfA i = AStep (w.r i) (w.a i) (a' i)

  abbrev OfR : ℕ → Type 0
  OfR i = RStep i (w.v (w.word i)) (w.p (w.word i)) (w.r i) (r' i)

  grown_v : (z : ℕ) → OfV z → (w.v z).first ≤ (v' z).first
  grown_v z (keeps e) = rw e (omega arith)
  grown_v z (raises l _) = omega (arith, l)

  grown_p : (z : ℕ) → OfP z → (w.p z).seq ≤ (p' z).seq
  grown_p z (keeps e) = rw e (omega arith)
  grown_p z (opens o) = o.grows

  grown_r : (i : ℕ) → OfR i → (w.r i).first ≤ (r' i).first
  grown_r i (keeps e) = rw e (omega arith)
  grown_r i (grows l) = omega arith
  grown_r i (wins e _ _ _) = omega arith

  -- a claim on word z
  module _ (z : ℕ) (c : Claim) (even : c.seq % 2 ≡ 0) (h : Claimed (w.v z) (w.p z) (w.a c.pid) (w.r c.pid) c) where
    latest : OfP z → (c.seq < (p' z).seq) ⊎ (c ≡ p' z)
    latest (keeps e) = rw e h.latest
    latest (opens o) =
        inl
        (⊎_elim (λ l. omega (arith, o.grows))
        (λ q. let g = ap (λ (x : Claim). x.seq) q in omega (arith, o, (k.words z).even)) h.latest)

    told : OfV z → c.seq ≤ (v' z).first → (w.r c.pid).first ≡ c.c → (w.r c.pid).second ≡ 1
    told (keeps e) = rw e h.told
    told (raises l _) =
        λ up same.
        ⊎_elim (λ q. h.told (omega (arith, l, (k.words z).even)) same) (λ q. ap (λ (x : Claim). (w.r x.pid).second) q ∙ l.told)
        h.latest

    value : OfV z → c.seq ≡ (v' z).first → (w.a c.pid).first ≡ c.c → (w.a c.pid).second ≡ (v' z).second
    value (keeps e) = rw e h.value
    value (raises l _) =
        λ up same. ⊎_elim (λ q. absurd (omega (arith, l))) (λ q. ap (λ (x : Claim). (w.a x.pid).second) q ∙ l.value) h.latest

    -- R keeps what it told of the claim's count, and A its value
    told_r : OfR c.pid → ((w.r c.pid).first ≡ c.c → (w.r c.pid).second ≡ 1) → (r' c.pid).first ≡ c.c → (r' c.pid).second ≡ 1
    told_r (keeps e) f = rw e f
    told_r (grows l) f = λ same. absurd (omega (arith, h.counted))
    told_r (wins _ one _ _) f = λ same. one

    value_a : (y : ℕ) → OfA c.pid → ((w.a c.pid).first ≡ c.c → (w.a c.pid).second ≡ y) → (a' c.pid).first ≡ c.c → (a' c.pid).second ≡ y
    value_a y (keeps e) f = rw e f
    value_a y (grows l) f = λ same. absurd (omega (arith, h.counted))

    claim_stays : Claimed (v' z) (p' z) (a' c.pid) (r' c.pid) c
    claim_stays =
        record {
          latest = latest (s.p z);
          counted = omega (arith, h.counted, grown_r c.pid (s.r c.pid));
          told = λ up. told_r (s.r c.pid) (told (s.v z) up);
          value = λ up. value_a (v' z).second (s.a c.pid) (value (s.v z) up);
        }

    -- the entry read for it
    module _ (e : Halves) (g : Got (w.v z) (w.a c.pid) c e) where
      old : OfV z → c.seq ≡ (v' z).first → e.second ≡ (v' z).second
      old (keeps f) = rw f g.old
      old (raises l _) =
          λ up.
          ⊎_elim (λ q. absurd (omega (arith, l)))
          (λ q.
          let counts = ap (λ (x : Claim). (w.a x.pid).first) q ∙ l.count ∙ sym (ap (λ (x : Claim). x.c) q) in
          sym (g.new counts) ∙ ap (λ (x : Claim). (w.a x.pid).second) q ∙ l.value)
          h.latest

      entry_stays : Got (v' z) (a' c.pid) c e
      entry_stays = record { even = g.even; agreed = g.agreed; new = value_a e.second (s.a c.pid) g.new; old = old (s.v z) }

  -- station i, with the record t at place q, whose own entries keep their counts
  module _ (i : ℕ) (q : Place) (t : Station) (own-a : a' i ≡ w.a i) (own-r : (r' i).first ≡ (w.r i).first) (h : StandsIn n w q i t) where
    abbrev z : ℕ
    z = w.word i

    abbrev c : Claim
    c = t.saw

    calls : OfV z → Called n (w.v z) i t → Called n (v' z) i t
    calls (keeps e) d = rw e d
    calls (raises l _) d =
        record {
          low = d.low;
          high = d.high;
          sets = d.sets;
          even = d.even;
          begun = omega (arith, l, d.begun);
          differ = d.differ;
          finds = λ e. absurd (omega (arith, l, d.begun));
        }

    waits : OfV z → OfP z → OfR i → t.s ≤ (w.v z).first → Awaits (w.v z) (w.p z) (w.r i) i t.s → Awaits (v' z) (p' z) (r' i) i t.s
    waits (raises l _) f g d x = inr (inl (omega (arith, l)))
    waits (keeps e) f (grows g) d x = absurd (omega arith)
    waits (keeps e) (keeps f) (keeps g) d x = rw (e, f, g) x
    waits (keeps e) (keeps f) (wins _ _ full mine) d x =
        rw (e, f) (elim (dec_lt t.s (w.v z).first) [ yes l ↦ inr (inl l) | no l ↦ inr (inr (omega arith, mine)) ])
    waits (keeps e) (opens o) (keeps g) d x =
        rw (e, g) (⊎_elim inl (⊎_elim (λ l. inr (inl l)) (λ m. inr (inl (omega (arith, m.0, o.before))))) x)
    waits (keeps e) (opens o) (wins _ _ full mine) d x = absurd (omega (arith, o.before))

    saw_stays : Saw (w.v z) (w.p z) (w.a c.pid) (w.r c.pid) t.s c → Saw (v' z) (p' z) (a' c.pid) (r' c.pid) t.s c
    saw_stays x =
        record { from = x.from; upto = omega (arith, x.upto, grown_p z (s.p z)); claimed = λ e. claim_stays z c e (x.claimed e) }

    pub stands_stays : StandsIn n w' q i t
    stands_stays =
        let grown = grown_p z (s.p z) in
        record {
          count = rw own-a h.count;
          returns = rw own-r h.returns;
          called = from-map 11 q (λ _ x. calls (s.v z) x) h.called;
          value = rw own-a h.value;
          awaits = from-map 13 q (λ low x. waits (s.v z) (s.p z) (s.r i) (from_get 11 q (omega arith) h.called).begun x) h.awaits;
          claims = from-map 14 q (λ _ x. omega arith) h.claims;
          closes = from-map 15 q (λ _ x. omega arith) h.closes;
          saw = from-map 16 q (λ _ x. saw_stays x) h.saw;
          got = at_map 18 19 q (λ low _ x. entry_stays z c x.even (claimed (omega arith) x.even) t.entry x) h.got;
          tells =
              at_map 19 19 q
              (λ low high x.
              let even = (at_get 18 19 q (omega arith) high h.got).even in
              told_r z c even (claimed (omega arith) even) (s.r c.pid) x)
              h.tells;
          past = from-map 20 q (λ _ x. omega (arith, grown_v z (s.v z))) h.past;
        }
      where
        claimed : 16 ≤ num q → c.seq % 2 ≡ 0 → Claimed (w.v z) (w.p z) (w.a c.pid) (w.r c.pid) c
        claimed low = (from_get 16 q low h.saw).claimed

  -- word z
  module _ (z : ℕ) where
    h : WordStands w z (w.v z) (w.p z)
    h = k.words z

    claimed_still : p' z ≡ w.p z → (p' z).seq % 2 ≡ 0 → 0 < (p' z).seq → Claimed (v' z) (p' z) (a' (p' z).pid) (r' (p' z).pid) (p' z)
    claimed_still e = rw e (λ even some. rw e at (claim_stays z (w.p z) even (h.claimed even some)))

    word_steps : OfV z → OfP z → WordStands w' z (v' z) (p' z)
    word_steps (raises l e) _ =
        record {
          even = omega (arith, l, h.even);
          low = rw e (omega (arith, l));
          high = rw e (omega (arith, l));
          word = rw e (λ up. absurd (omega (arith, l)));
          contends = rw e (λ up. absurd (omega (arith, l)));
          claimed = claimed_still e;
        }
    word_steps (keeps e) (keeps f) =
        record {
          even = rw e h.even;
          low = rw (e, f) h.low;
          high = rw (e, f) h.high;
          word = rw (e, f) h.word;
          contends = rw (e, f) h.contends;
          claimed = claimed_still f;
        }
    word_steps (keeps e) (opens o) =
        let i = (p' z).pid in
        let d = o.contends in
        let counts : (p' z).c ≤ (r' i).first =
        omega (arith, (k.stations i).returns, not_behind (w.st i).place d.far, d.count, grown_r i (s.r i)) in
        rw e
        (record {
          even = h.even;
          low = omega (arith, o.low);
          high = o.high;
          word = λ _. o.word;
          contends = λ _. d;
          claimed =
              λ even some.
              record {
                latest = inr refl;
                counted = counts;
                told = λ up. absurd (omega (arith, o.low));
                value = λ up. absurd (omega (arith, o.low));
              };
        })

    word_stays : WordStands w' z (v' z) (p' z)
    word_stays = word_steps (s.v z) (s.p z)

  -- station j gets the record t' besides: it has what t' asks for, the others keep their own counts, and an open P that names it may go on naming it
  module _ (j : ℕ) (t' : Station) (contends : Contends (v' (w.word j)) (p' (w.word j)) (w.st j) → Contends (v' (w.word j)) (p' (w.word j)) t') where
    contends_on : (z : ℕ) → (v' z).first < (p' z).seq → (i : ℕ) → (p' z).pid ≡ i → Contends (v' z) (p' z) ((put_station j t' w').st i)
    contends_on z up =
        upd_all w.st j t' (λ i t. (p' z).pid ≡ i → Contends (v' z) (p' z) t)
        (λ e.
        let on = ap w.word (sym e) ∙ (word_stays z).word up in
        subst (λ z. Contends (v' z) (p' z) (w.st j) → Contends (v' z) (p' z) t') on contends (old j e))
        (λ i _ e. old i e)
      where
        old : (i : ℕ) → (p' z).pid ≡ i → Contends (v' z) (p' z) (w.st i)
        old i e = subst (λ i. Contends (v' z) (p' z) (w.st i)) e ((word_stays z).contends up)

    pub moved : ((i : ℕ) → (i ≡ j → ⊥) → (a' i ≡ w.a i) × ((r' i).first ≡ (w.r i).first)) → StandsIn n w' t'.place j t' → Kept n (put_station j t' w')
    moved others own =
        record {
          words =
              λ z.
              let h = word_stays z in
              record { even = h.even; low = h.low; high = h.high; word = h.word; contends = λ up. contends_on z up (p' z).pid refl; claimed = h.claimed };
          stations =
              upd_all w.st j t' (λ i t. StandsIn n w' t.place i t) own
              (λ i ne. stands_stays i (w.st i).place (w.st i) (others i ne).0 (others i ne).1 (k.stations i));
        }
