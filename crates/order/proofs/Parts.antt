-- The parts of `Pinned`, and what one more turn adds to each: first turns, last turns, points. Assumes nothing.
use mathlib.Core.Path.{◌≡◌, refl, ◌∙◌, sym, ap, subst⁻¹}
use mathlib.Core.Bool.{true, false, false≢true}
use mathlib.Core.List.{List}
use Prim.Native.Nat.{ℕ, suc, ◌≤◌}
use native.Mathlib.Omega.{arith}
use native.Mathlib.Decide.{dec_le}
use Rattle.method.specs.declared.Call.{Call}
use Rattle.method.specs.declared.Answer.TheVariants.{Ended}
use Rattle.method.specs.Record.{call}
use Rattle.method.specs.Update.{upd}
use Rattle.method.proofs.Upd.{upd_same, upd_other, upd_all}
use Rattle.order.specs.Accepted.{times}
use Rattle.order.specs.Steps.{Step, step_at, station_of, answer_of, begins_call, call_in, pointed}
use Rattle.order.specs.Pinned.{Begins, Ends}
use Rattle.order.proofs.Entered.{Entered}

-- what holds of each turn till now, and of the next one, holds of each till then
till : (P : ℕ → Type 0) (now : ℕ) → ((k : ℕ) → k ≤ now → P k) → P (suc now) → (k : ℕ) → k ≤ suc now → P k
till P now old new k h = elim (dec_le k now) [
  | yes l ↦ old k l
  | no l ↦ subst⁻¹ P (omega arith) new
]

pub record Firsts (steps : List Step) (now : ℕ) (first station : ℕ → ℕ) (what : ℕ → Call) : Type 0 where
  pub says : (c : ℕ) → 1 ≤ first c → (first c ≤ now) × Begins (step_at steps (first c)) c (station c) (what c)
  pub begun : (k : ℕ) → 1 ≤ k → k ≤ now → begins_call (step_at steps k) ≡ true → (1 ≤ (step_at steps k).offer) × (first (step_at steps k).offer ≡ k)

pub record Lasts (steps : List Step) (now : ℕ) (last result own : ℕ → ℕ) : Type 0 where
  pub says : (c : ℕ) → 1 ≤ last c → (last c ≤ now) × Ends steps (last c) c (result c) (own c)
  pub ended : (k r n : ℕ) → 1 ≤ k → k ≤ now → answer_of (step_at steps k) ≡ Ended r n → (1 ≤ call_in steps k) × (last (call_in steps k) ≡ k)

pub record Pointed (steps : List Step) (now : ℕ) (point : ℕ → ℕ) : Type 0 where
  pub says : (c : ℕ) → 1 ≤ point c → (point c ≤ now) × (1 ≤ times c (pointed steps (point c)))
  pub listed : (c k : ℕ) → 1 ≤ k → k ≤ now → 1 ≤ times c (pointed steps k) → point c ≡ k

module _ (steps : List Step) (now : ℕ) where
  abbrev s : Step
  s = step_at steps (suc now)

  abbrev o : Call
  o = call s.turn.kind s.turn.a s.turn.b

  module _ {first station : ℕ → ℕ} {what : ℕ → Call} (f : Firsts steps now first station what) where
    -- the next turn begins no call, or the one on offer
    pub none_begins : begins_call s ≡ false → Firsts steps (suc now) first station what
    none_begins e =
        record {
          says = λ c h. let q = f.says c h in (omega arith, q.1);
          begun =
              λ k low high.
              till (λ k. 1 ≤ k → begins_call (step_at steps k) ≡ true → (1 ≤ (step_at steps k).offer) × (first (step_at steps k).offer ≡ k)) now
              (λ k l low. f.begun k low l)
              (λ low b. absurd (false≢true (sym e ∙ b))) k high low;
        }

    pub one_begins : begins_call s ≡ true → 1 ≤ s.offer → first s.offer ≡ 0
        → Firsts steps (suc now) (upd first s.offer (suc now)) (upd station s.offer (station_of s)) (upd what s.offer o)
    one_begins e some new =
        let c = s.offer in
        record {
          says =
              upd_all first c (suc now) (λ d y. 1 ≤ y → (y ≤ suc now) × Begins (step_at steps y) d (upd station c (station_of s) d) (upd what c o d))
              (λ h.
              (omega arith, record { begins = e; number = refl; maker = sym (upd_same station c (station_of s)); what = sym (upd_same what c o) }))
              (λ d ne h.
              let q = f.says d h in
              (omega arith, rw (upd_other station c (station_of s) d ne, upd_other what c o d ne) q.1));
          begun =
              λ k low high.
              till (λ k. 1 ≤ k → begins_call (step_at steps k) ≡ true → (1 ≤ (step_at steps k).offer) × (upd first c (suc now) (step_at steps k).offer ≡ k)) now
              (λ k l low b.
              let q = f.begun k low l b in
              (q.0, upd_other first c (suc now) (step_at steps k).offer (λ z. let y = ap first z ∙ new in omega (arith, q.1)) ∙ q.1))
              (λ low b. (some, upd_same first c (suc now))) k high low;
        }

  module _ {last result own : ℕ → ℕ} (f : Lasts steps now last result own) where
    -- it ends no call, or the one that it is for
    pub none_ends : {own' : ℕ → ℕ} → ((r n : ℕ) → answer_of s ≡ Ended r n → ⊥) → ((c : ℕ) → 1 ≤ last c → own' c ≡ own c) → Lasts steps (suc now) last result own'
    none_ends {own'} never same =
        record {
          says = λ c h. let q = f.says c h in (omega arith, rw (same c h) q.1);
          ended =
              λ k r n low high.
              till (λ k. 1 ≤ k → answer_of (step_at steps k) ≡ Ended r n → (1 ≤ call_in steps k) × (last (call_in steps k) ≡ k)) now
              (λ k l low. f.ended k r n low l)
              (λ low e. absurd (never r n e)) k high low;
        }

    pub one_ends : {own' : ℕ → ℕ} (l r n : ℕ) → answer_of s ≡ Ended r n → call_in steps (suc now) ≡ l → 1 ≤ l → last l ≡ 0 → own' l ≡ n
        → ((c : ℕ) → (c ≡ l → ⊥) → own' c ≡ own c) → Lasts steps (suc now) (upd last l (suc now)) (upd result l r) own'
    one_ends {own'} l r n e is some none took same =
        record {
          says =
              upd_all last l (suc now) (λ c y. 1 ≤ y → (y ≤ suc now) × Ends steps y c (upd result l r c) (own' c))
              (λ h. (omega arith, record { number = is; answer = rw (upd_same result l r, took) e }))
              (λ c ne h.
              let q = f.says c h in
              (omega arith, rw (upd_other result l r c ne, same c ne) q.1));
          ended =
              λ k r n low high.
              till (λ k. 1 ≤ k → answer_of (step_at steps k) ≡ Ended r n → (1 ≤ call_in steps k) × (upd last l (suc now) (call_in steps k) ≡ k)) now
              (λ k h low e.
              let q = f.ended k r n low h e in
              (q.0, upd_other last l (suc now) (call_in steps k) (λ z. let y = ap last z ∙ none in omega (arith, q.1)) ∙ q.1))
              (λ low e. rw is (some, upd_same last l (suc now))) k high low;
        }

  -- the calls of its points have their point in it
  pub points_now : {point point' : ℕ → ℕ} {list list' : List ℕ} → Pointed steps now point → Entered (suc now) (pointed steps (suc now)) point point' list list'
      → Pointed steps (suc now) point'
  points_now {point} {point'} f e =
      record {
        says =
            λ c h.
            elim (dec_le 1 (times c (pointed steps (suc now)))) [
              | yes p ↦ subst⁻¹ (λ y. (y ≤ suc now) × (1 ≤ times c (pointed steps y))) (e.these c p).1 (omega arith, p)
              | no p ↦
                  let same = e.others c (omega arith) in
                  let q = f.says c (omega (arith, same)) in
                  subst⁻¹ (λ y. (y ≤ suc now) × (1 ≤ times c (pointed steps y))) same (omega (arith, q.0), q.1)
            ];
        listed =
            λ c k low high.
            till (λ k. 1 ≤ k → 1 ≤ times c (pointed steps k) → point' c ≡ k) now
            (λ k l low h.
            let q = f.listed c k low l h in
            elim (dec_le 1 (times c (pointed steps (suc now)))) [
              | yes p ↦ absurd (omega (arith, q, (e.these c p).0))
              | no p ↦ e.others c (omega arith) ∙ q
            ])
            (λ low h. (e.these c h).1) k high low;
      }
