-- Own turns of calls: 1, 8 or 10 where they have ended, and nine at most till then. Assumes nothing.
use mathlib.Core.Path.{◌≡◌}
use Prim.Native.Nat.{ℕ, ◌≤◌}
use native.Mathlib.Omega.{arith}
use Rattle.method.specs.Update.{upd}
use Rattle.method.proofs.Upd.{upd_other, upd_all}
use Rattle.bench.specs.Promise.{FinishingTurns}

pub record Owns (own last : ℕ → ℕ) : Type 0 where
  pub took : (c : ℕ) → 1 ≤ last c → FinishingTurns (own c)
  pub few : (c : ℕ) → last c ≡ 0 → own c ≤ 9

module _ {own last : ℕ → ℕ} (h : Owns own last) (c n : ℕ) where
  -- a call that goes on has had n
  pub going : last c ≡ 0 → n ≤ 9 → Owns (upd own c n) last
  going e few =
      record {
        took = upd_all own c n (λ d y. 1 ≤ last d → FinishingTurns y) (λ l. absurd (omega arith)) (λ d ne. h.took d);
        few = upd_all own c n (λ d y. last d ≡ 0 → y ≤ 9) (λ l. few) (λ d ne. h.few d);
      }

  -- one that ends took n
  pub ended : (now : ℕ) → 1 ≤ now → FinishingTurns n → Owns (upd own c n) (upd last c now)
  ended now t took =
      record {
        took = upd_all own c n (λ d y. 1 ≤ upd last c now d → FinishingTurns y) (λ l. took) (λ d ne l. h.took d (rw (upd_other last c now d ne) at l));
        few =
            upd_all last c now (λ d l. l ≡ 0 → upd own c n d ≤ 9) (λ l. absurd (omega arith))
            (λ d ne l. rw (upd_other own c n d ne) (h.few d l));
      }
