-- The invariant between what is watched of a run and the journal of its calls, and that each event keeps it. Assumes nothing.
use mathlib.Core.Path.{◌≡◌, refl, ◌∙◌, sym, ap, subst⁻¹}
use Prim.Native.Nat.{ℕ, ◌+◌, ◌≤◌}
use native.Mathlib.Omega.{arith}
use Rattle.method.specs.declared.Call.{Call}
use Rattle.method.specs.Update.{upd}
use Rattle.method.specs.OneWord.{answer, left, Agrees}
use Rattle.method.specs.Watch.{Phase, Free, Begun, Done, Watcher, put_phase, point_served}
use Rattle.method.proofs.Upd.{upd_same, upd_other, upd_all}
use Rattle.order.specs.Journal.{Journal, begins, works, lists, ends}
use Rattle.order.specs.Accepted.{times, served}
use Rattle.order.proofs.Lists.{answered, served_same, answered_same, served_more, answered_other, answered_last}
use Rattle.order.proofs.Dated.{Dated, unlisted, no_point, no_end, later, begins_now, points_now, ends_now}

-- what is known of one call, with what the word that starts as x answers it
pub record Entry : Type 0 where
  pub station : ℕ
  pub what : Call
  pub first : ℕ
  pub point : ℕ
  pub last : ℕ
  pub own : ℕ
  pub said : ℕ

abbrev pub entry_of : ℕ → Journal → ℕ → Entry
entry_of x g c =
    record {
      station = g.station c;
      what = g.call c;
      first = g.first c;
      point = g.point c;
      last = g.last c;
      own = g.own c;
      said = answered x g.call g.list c;
    }

-- station i is in the call of number c, and has had n own turns in it
pub record Mine (i n c : ℕ) (e : Entry) : Type 0 where
  pub some : 1 ≤ c
  pub mine : e.station ≡ i
  pub begun : 1 ≤ e.first
  pub going : e.last ≡ 0
  pub turns : e.own ≡ n

-- which is the call o of the one word
pub record InCall (i n z : ℕ) (o : Call) (c : ℕ) (e : Entry) : Type 0 where
  pub is : Mine i n c e
  pub word : z ≡ 0
  pub what : e.what ≡ o

-- by what is watched of the station
abbrev pub Stands : ℕ → ℕ → ℕ → Entry → Phase → Type 0
Stands i n c e Free = Unit {0}
Stands i n c e (Begun z o) = InCall i n z o c e × (e.point ≡ 0)
Stands i n c e (Done z o y) = InCall i n z o c e × ((1 ≤ e.point) × (e.said ≡ y))

-- two entries that agree in all are the same
same_entry : {e e' : Entry} → e'.station ≡ e.station → e'.what ≡ e.what → e'.first ≡ e.first → e'.point ≡ e.point → e'.last ≡ e.last → e'.own ≡ e.own → e'.said ≡ e.said
    → e' ≡ e
same_entry a b c d l o s = λ k. record { station = a k; what = b k; first = c k; point = d k; last = l k; own = o k; said = s k }

-- a station keeps its stand where its call does
stays : {i n c : ℕ} {e e' : Entry} (f : Phase) → (Mine i n c e → e' ≡ e) → Stands i n c e f → Stands i n c e' f
stays Free same h = tt
stays {i} {n} {c} (Begun z o) same h = subst⁻¹ (λ (e : Entry). InCall i n z o c e × (e.point ≡ 0)) (same h.0.is) h
stays {i} {n} {c} (Done z o y) same h = subst⁻¹ (λ (e : Entry). InCall i n z o c e × ((1 ≤ e.point) × (e.said ≡ y))) (same h.0.is) h

-- one own turn more
abbrev more : Entry → ℕ → Entry
more e n =
    record { station = e.station; what = e.what; first = e.first; point = e.point; last = e.last; own = n; said = e.said }

more_in : {i n z c : ℕ} {o : Call} {e : Entry} (n' : ℕ) → InCall i n z o c e → InCall i n' z o c (more e n')
more_in n' h =
    record {
      is = record { some = h.is.some; mine = h.is.mine; begun = h.is.begun; going = h.is.going; turns = refl };
      word = h.word;
      what = h.what;
    }

more_stands : (i n c : ℕ) (e : Entry) (n' : ℕ) (f : Phase) → Stands i n c e f → Stands i n' c (more e n') f
more_stands i n c e n' Free h = tt
more_stands i n c e n' (Begun z o) h = (more_in n' h.0, h.1)
more_stands i n c e n' (Done z o y) h = (more_in n' h.0, h.1)

-- a station that is not free is in a call
pub in_call_lem : {i n c : ℕ} {e : Entry} (f : Phase) → (f ≡ Free → ⊥) → Stands i n c e f → Mine i n c e
in_call_lem Free busy h = absurd (busy refl)
in_call_lem (Begun z o) busy h = h.0.is
in_call_lem (Done z o y) busy h = h.0.is

-- till turn `now`, from the word x, where each station has had so many own turns in its call
pub record Kept (x now : ℕ) (owns : ℕ → ℕ) (m : Watcher) (g : Journal) : Type 0 where
  pub dated : Dated now g.first g.point g.last g.list
  pub word : served x g.call g.list ≡ m.words 0
  pub answers : (c : ℕ) → 1 ≤ g.last c → Agrees (g.call c) (answered x g.call g.list c) (g.result c)
  pub stands : (i : ℕ) → Stands i (owns i) (g.latest i) (entry_of x g (g.latest i)) (m.phase i)

-- a call that has not begun
abbrev pub Unbegun : Journal → ℕ → Type 0
Unbegun g c = (1 ≤ c) × (g.first c ≡ 0)

module _ {x now : ℕ} {owns : ℕ → ℕ} {m : Watcher} {g : Journal} (k : Kept x now owns m g) where
  pub no_end_yet : (c : ℕ) → Unbegun g c → g.last c ≡ 0
  no_end_yet c u = no_end k.dated c (no_point k.dated c u.1)

  pub keeps_on : (next : ℕ) → now ≤ next → Kept x next owns m g
  keeps_on next h = record { dated = later k.dated next h; word = k.word; answers = k.answers; stands = k.stands }

  pub recount : {owns' : ℕ → ℕ} → ((j : ℕ) → owns' j ≡ owns j) → Kept x now owns' m g
  recount e = subst⁻¹ (λ (owns : ℕ → ℕ). Kept x now owns m g) (λ s j. e j s) k

  -- station i begins the call o under the number c
  module _ (i c : ℕ) (o : Call) (t : 1 ≤ now) (u : Unbegun g c) where
    listed_same : (d : ℕ) → 1 ≤ times d g.list → upd g.call c o d ≡ g.call d
    listed_same d h =
        upd_other g.call c o d (λ e. let z = ap (λ c. times c g.list) e ∙ unlisted k.dated c (no_point k.dated c u.1) in omega arith)

    said_same : (d : ℕ) → answered x (upd g.call c o) g.list d ≡ answered x g.call g.list d
    said_same d = answered_same (upd g.call c o) g.call g.list x d listed_same

    begins_mine : owns i ≡ 0 → Mine i (owns i) c (entry_of x (begins now c i o g) c)
    begins_mine none =
        record {
          some = u.0;
          mine = upd_same g.station c i;
          begun = subst⁻¹ (λ n. 1 ≤ n) (upd_same g.first c now) t;
          going = no_end_yet c u;
          turns = upd_same g.own c 0 ∙ sym none;
        }

    others_stand : (j : ℕ) → Stands j (owns j) (g.latest j) (entry_of x (begins now c i o g) (g.latest j)) (m.phase j)
    others_stand j =
        let d = g.latest j in
        stays (m.phase j)
        (λ h.
        let off : d ≡ c → ⊥ = λ e. let first = ap g.first e ∙ u.1 in omega (arith, h.begun) in
        same_entry (upd_other g.station c i d off) (upd_other g.call c o d off) (upd_other g.first c now d off) refl refl (upd_other g.own c 0 d off)
        (said_same d))
        (k.stands j)

    pub begin_keeps : owns i ≡ 0 → Kept x now owns (put_phase i (Begun 0 o) m) (begins now c i o g)
    begin_keeps none =
        record {
          dated = begins_now k.dated c u.1;
          word = served_same (upd g.call c o) g.call g.list x listed_same ∙ k.word;
          answers =
              λ d h.
              rw (said_same d, upd_other g.call c o d (λ e. let z = ap g.last e ∙ no_end_yet c u in omega arith)) (k.answers d h);
          stands =
              upd_all m.phase i (Begun 0 o) (λ j f. Stands j (owns j) (upd g.latest i c j) (entry_of x (begins now c i o g) (upd g.latest i c j)) f)
              (rw (upd_same g.latest i c)
              (record { is = begins_mine none; word = refl; what = upd_same g.call c o }, no_point k.dated c u.1))
              (λ j ne. rw (upd_other g.latest i c j ne) (others_stand j));
        }

  -- station i is in a call
  module _ (i : ℕ) (mine : Mine i (owns i) (g.latest i) (entry_of x g (g.latest i))) where
    abbrev c : ℕ
    c = g.latest i

    -- another station's call is another
    apart : (j : ℕ) → (j ≡ i → ⊥) → Mine j (owns j) (g.latest j) (entry_of x g (g.latest j)) → g.latest j ≡ c → ⊥
    apart j ne other e = ne (sym other.mine ∙ ap g.station e ∙ mine.mine)

    pub work_keeps : Kept x now (upd owns i (owns i + 1)) m (works i g)
    work_keeps =
        record {
          dated = k.dated;
          word = k.word;
          answers = k.answers;
          stands =
              upd_all owns i (owns i + 1) (λ j n. Stands j n (g.latest j) (entry_of x (works i g) (g.latest j)) (m.phase j))
              (subst⁻¹ (λ (n : ℕ). Stands i (owns i + 1) c (more (entry_of x g c) n) (m.phase i)) (upd_same g.own c (g.own c + 1) ∙ ap (λ n. n + 1) mine.turns)
              (more_stands i (owns i) c (entry_of x g c) (owns i + 1) (m.phase i) (k.stands i)))
              (λ j ne.
              stays (m.phase j) (λ h. same_entry refl refl refl refl refl (upd_other g.own c (g.own c + 1) (g.latest j) (apart j ne h)) refl) (k.stands j));
        }

    -- the call o of the one word
    module _ (z : ℕ) (o : Call) (word : z ≡ 0) (what : g.call c ≡ o) where
      points_stands : 1 ≤ now → g.point c ≡ 0 → Stands i (owns i) c (entry_of x (lists now c g) c) (Done z o (answer (m.words z) o))
      points_stands t none = (
        record {
          is = record { some = mine.some; mine = mine.mine; begun = mine.begun; going = mine.going; turns = mine.turns };
          word = word;
          what = what;
        },
        (rw (upd_same g.point c now) t, answered_last g.call g.list x c (unlisted k.dated c none) ∙ rw (k.word, what, word)),
      )

      pub point_keeps : 1 ≤ now → g.point c ≡ 0 → Kept x now owns (point_served i m (Begun z o)) (lists now c g)
      point_keeps t none =
          record {
            dated = points_now k.dated c t mine.begun none;
            word =
                served_more g.call g.list x c ∙ rw (k.word, what)
                (sym (ap (λ z. upd m.words z (left (m.words z) o) 0) word ∙ upd_same m.words 0 (left (m.words 0) o)));
            answers =
                λ d h.
                rw (answered_other g.call g.list x c d (λ e. let l = ap g.last e ∙ mine.going in omega arith)) (k.answers d h);
            stands =
                upd_all m.phase i (Done z o (answer (m.words z) o)) (λ j f. Stands j (owns j) (g.latest j) (entry_of x (lists now c g) (g.latest j)) f)
                (points_stands t none)
                (λ j ne.
                stays (m.phase j)
                (λ h.
                let off = apart j ne h in
                same_entry refl refl refl (upd_other g.point c now (g.latest j) off) refl refl (answered_other g.call g.list x c (g.latest j) off))
                (k.stands j));
          }

      -- whatever its station's count is then
      pub end_keeps : (y result : ℕ) {owns' : ℕ → ℕ} → ((j : ℕ) → (j ≡ i → ⊥) → owns' j ≡ owns j) → 1 ≤ g.point c → answered x g.call g.list c ≡ y → Agrees o y result
          → Kept x now owns' (put_phase i Free m) (ends now i result g)
      end_keeps y result {owns'} others some said agrees =
          record {
            dated = ends_now k.dated c some;
            word = k.word;
            answers =
                upd_all g.result c result (λ d y. 1 ≤ upd g.last c now d → Agrees (g.call d) (answered x g.call g.list d) y)
                (λ h. rw (what, said) agrees)
                (λ d ne h. k.answers d (rw (upd_other g.last c now d ne) at h));
            stands =
                upd_all m.phase i Free (λ j f. Stands j (owns' j) (g.latest j) (entry_of x (ends now i result g) (g.latest j)) f) tt
                (λ j ne.
                subst⁻¹ (λ (n : ℕ). Stands j n (g.latest j) (entry_of x (ends now i result g) (g.latest j)) (m.phase j)) (others j ne)
                (stays (m.phase j) (λ h. same_entry refl refl refl refl (upd_other g.last c now (g.latest j) (apart j ne h)) refl refl) (k.stands j)));
          }
