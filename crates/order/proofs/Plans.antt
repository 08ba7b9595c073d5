-- Which calls of the table have begun: those before the one that is next for their station. Assumes nothing.
use mathlib.Core.Path.{◌≡◌, refl, ◌∙◌, sym}
use mathlib.Core.Logic.{◌⊎◌, inl, inr, ⊎_elim}
use mathlib.Core.Bool.{Bool, true, false, cond}
use mathlib.Core.List.{List}
use Prim.Native.Nat.{ℕ, zero, suc, ◌-◌, ◌≤◌, ◌<◌}
use native.Mathlib.Omega.{arith}
use native.Mathlib.Decide.{ℕ_discrete, dec_le}
use lib.ListN.{length, get_or, set, length-set}
use lib.Seq.{get_or-set_same, get_or-set_other}
use Rattle.rules.proofs.Facts.{either_way}
use Rattle.method.specs.declared.Call.{Call}
use Rattle.method.specs.Record.{call}
use Rattle.method.specs.Update.{upd}
use Rattle.method.proofs.Upd.{upd_same, upd_other, upd_all}
use Rattle.runfile.specs.First.{first_from}
use Rattle.runfile.specs.Layout.{records, call_of}
use Rattle.run.specs.Calls.{made_by, call_after}
use Rattle.run.proofs.Steps.{mine_after}
use Rattle.order.specs.Journal.{Journal}
use Rattle.order.specs.Files.{InTable}
use Rattle.order.proofs.Same.{opening}

-- a call that comes after another has a larger number
first_later : (p : ℕ → Bool) (i m : ℕ) → (first_from p i m ≡ 0) ⊎ (i < first_from p i m)
unfolding first_from
first_later p i zero = inl refl
first_later p i (suc m) =
    either_way (p i)
    (λ e. rw e (inr (omega arith)))
    (λ e. rw e (⊎_elim (λ z. inl z) (λ l. inr (omega arith)) (first_later p (suc i) m)))

after_later : (table : List ℕ) (i c : ℕ) → (call_after table i c ≡ 0) ⊎ (c < call_after table i c)
unfolding call_after
after_later table i c = first_later (made_by table i) c (records table - c)

-- where a station's next call stands, if it has one
abbrev Next : List ℕ → ℕ → ℕ → Type 0
Next table i d = (d ≡ 0) ⊎ (((call_of table d).station ≡ i) × (d ≤ records table))

abbrev Before : ℕ → ℕ → Type 0
Before c d = (d ≡ 0) ⊎ (c < d)

pub record Planned (table up : List ℕ) (station : ℕ → ℕ) (what : ℕ → Call) (first : ℕ → ℕ) : Type 0 where
  pub heads : length up ≡ 33
  pub mine : (i : ℕ) → i < 33 → Next table i (get_or up i 0)
  pub calls : (c : ℕ) → 1 ≤ first c → InTable table c (station c) (what c)
  pub next : (c : ℕ) → 1 ≤ first c → Before c (get_or up (call_of table c).station 0)

module _ {table up : List ℕ} {station : ℕ → ℕ} {what : ℕ → Call} {first : ℕ → ℕ} (p : Planned table up station what first) (i : ℕ) (inside : i < 33) where
  abbrev e : ℕ
  e = get_or up i 0

  -- the next call of station i is its own, where it has one
  its_own : 1 ≤ e → ((call_of table e).station ≡ i) × (e ≤ records table)
  its_own some = ⊎_elim (λ z. absurd (omega arith)) (λ m. m) (p.mine i inside)

  -- and has not begun
  pub not_begun : 1 ≤ e → first e ≡ 0
  not_begun some = elim (dec_le 1 (first e)) [
    | yes h ↦
        let q : Before e (get_or up i 0) = rw (its_own some).0 at (p.next e h) in
        absurd (⊎_elim (λ z. omega arith) (λ l. omega arith) q)
    | no h ↦ omega arith
  ]

  module _ (some : 1 ≤ e) (now : ℕ) (o : Call) (is : o ≡ call (call_of table e).kind (call_of table e).a (call_of table e).b) where
    abbrev d : ℕ
    d = call_after table i e

    up_at : (P : ℕ → Type 0) (j : ℕ) → (j ≡ i → P d) → ((j ≡ i → ⊥) → P (get_or up j 0)) → P (get_or (set up i d) j 0)
    up_at P j new old = elim (ℕ_discrete j i) [
      | yes q ↦ rw (q, get_or-set_same up i d 0 (omega (arith, p.heads))) (new q)
      | no ne ↦ rw (get_or-set_other up i j d 0 ne) (old ne)
    ]

    begun_next : (c : ℕ) → 1 ≤ first c → Before c (get_or (set up i d) (call_of table c).station 0)
    begun_next c h =
        up_at (Before c) (call_of table c).station
        (λ q.
        let b : Before c (get_or up i 0) = rw q at (p.next c h) in
        ⊎_elim (λ z. inl z) (λ l. inr (⊎_elim (λ z. absurd (omega arith)) (λ k. omega arith) b)) (after_later table i e))
        (λ ne. p.next c h)

    begins_planned : Planned table (set up i d) (upd station e i) (upd what e o) (upd first e now)
    begins_planned =
        record {
          heads = length-set up i d ∙ p.heads;
          mine = λ j h. up_at (Next table j) j (λ q. rw q (mine_after table i e)) (λ ne. p.mine j h);
          calls =
              upd_all first e now (λ c f. 1 ≤ f → InTable table c (upd station e i c) (upd what e o c))
              (λ h.
              rw (upd_same station e i, upd_same what e o)
              (record { number = (some, (its_own some).1); maker = sym (its_own some).0; what = is }))
              (λ c ne h. rw (upd_other station e i c ne, upd_other what e o c ne) (p.calls c h));
          next =
              upd_all first e now (λ c f. 1 ≤ f → Before c (get_or (set up i d) (call_of table c).station 0))
              (λ h. up_at (Before e) (call_of table e).station (λ q. after_later table i e) (λ ne. absurd (ne (its_own some).0)))
              (λ c ne. begun_next c);
        }

-- after a turn in which that call began, or none
pub planned : {table up : List ℕ} (g : Journal) → Planned table up g.station g.call g.first → (i : ℕ) → i < 33 → (begun : Bool) (now : ℕ) (o : Call)
    → (begun ≡ true → (1 ≤ get_or up i 0) × (o ≡ call (call_of table (get_or up i 0)).kind (call_of table (get_or up i 0)).a (call_of table (get_or up i 0)).b))
    → let g' = opening begun now (get_or up i 0) i o g in
    Planned table (cond begun (set up i (call_after table i (get_or up i 0))) up) g'.station g'.call g'.first
planned g p i inside true now o h = begins_planned p i inside (h refl).0 now o (h refl).1
planned g p i inside false now o h = p

pub recast : {table up up' : List ℕ} {station station' : ℕ → ℕ} {what what' : ℕ → Call} {first first' : ℕ → ℕ}
    → up' ≡ up → station' ≡ station → what' ≡ what → first' ≡ first → Planned table up station what first → Planned table up' station' what' first'
recast a b c d p = rw (a, b, c, d) p
