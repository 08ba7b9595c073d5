-- Changes of a ledger, one after the other. Assumes nothing.
use mathlib.Core.Path.{◌≡◌, refl, ◌∙◌, sym, ap}
use mathlib.Core.Bool.{Bool, true, false, not, ◌&&◌}
use mathlib.Core.List.{[], ◌∷◌}
use Prim.Native.Nat.{ℕ, zero, suc, ◌+◌, ◌-◌, ◌<◌, ◌≤◌}
use native.Mathlib.Omega.{arith}
use lib.Dec.{eqb}
use lib.ListN.{get_or}
use Rattle.card.specs.declared.Claim.{Claim}
use Rattle.run.specs.declared.Ledger.{Ledger}
use Rattle.run.specs.Book.{Book, enters, all_enter, waiters}
use Rattle.run.specs.Row.{size_of, start_of}
use Rattle.run.specs.Ledger.{Fits, Changes, wait_in}
use Rattle.run.proofs.Written.{read}
use Rattle.run.proofs.Books.{unchanged, same_change, and_then, same_wait, enter_more}

-- a change as it stands, under another name, and after another
pub still : (b : Ledger) → Fits b → Changes b (λ x. x) b
still b f = record { same = refl; became = unchanged f }

pub renamed : {p q : Ledger} {f g : Book → Book} → ((b : Book) → f b ≡ g b) → Changes p f q → Changes p g q
renamed e a = record { same = a.same; became = same_change e a.became }

pub then : {p q r : Ledger} {f g : Book → Book} → Changes p f q → Changes q g r → Changes p (λ b. g (f b)) r
then a b = record { same = b.same ∙ a.same; became = and_then a.became b.became }

-- those that wait, station by station
module _ (start : Ledger) (saw : Claim) (turn : ℕ) where
  -- those that wait among stations 1 to j have their point
  abbrev pub Raised : ℕ → Ledger → Type 0
  Raised j b = Changes start (all_enter turn (waiters (wait_in start) saw.pid saw.seq j)) b

  pub none_yet : Fits start → Raised 0 start
  unfolding all_enter waiters
  none_yet f = still start f

  -- whether station j waits
  abbrev waits_at : ℕ → Ledger → Bool
  waits_at j b = not (eqb j saw.pid) && eqb (get_or b.row.now (5158 + j) 0) saw.seq

  same_test : (j : ℕ) (b : Ledger) → Raised j b → suc j < 33 → (not (eqb (suc j) saw.pid) && eqb (get_or (wait_in start) (suc j) 0) saw.seq) ≡ waits_at (suc j) b
  unfolding start_of size_of
  same_test j b before h =
      ap (λ x. not (eqb (suc j) saw.pid) && eqb x saw.seq) (ap (λ l. get_or l (suc j) 0) (sym (same_wait before.became)) ∙ read b.row.now 6 (suc j) h)

  pub one_waits : (j : ℕ) (b r s : Ledger) → 1 ≤ j → j < 33 → Raised (j - 1) b → waits_at j b ≡ true → Changes b (enters turn j) r → s ≡ r → Raised (j + 1 - 1) s
  unfolding all_enter waiters
  one_waits zero b r s l h before e a is = absurd (omega arith)
  one_waits (suc j) b r s l h before e a is =
      let m : suc j - 1 ≡ j = omega arith in
      let n : suc j + 1 - 1 ≡ suc j = omega arith in
      rw (n, is)
      (renamed (λ x. rw (same_test j b (rw m at before) h ∙ e) (sym (enter_more turn (waiters (wait_in start) saw.pid saw.seq j) (suc j ∷ []) x))) (then (rw m at before) a))

  pub one_less : (j : ℕ) (b s : Ledger) → 1 ≤ j → j < 33 → Raised (j - 1) b → waits_at j b ≡ false → s ≡ b → Raised (j + 1 - 1) s
  unfolding all_enter waiters
  one_less zero b s l h before e is = absurd (omega arith)
  one_less (suc j) b s l h before e is =
      let m : suc j - 1 ≡ j = omega arith in
      let n : suc j + 1 - 1 ≡ suc j = omega arith in
      rw (n, is)
      (renamed (λ x. rw (same_test j b (rw m at before) h ∙ e) (sym (enter_more turn (waiters (wait_in start) saw.pid saw.seq j) [] x))) (rw m at before))

-- the winner first
pub winner_first : {p q r : Ledger} (saw : Claim) (turn n : ℕ) → Changes p (enters turn saw.pid) q → Raised q saw turn n r
    → Changes p (all_enter turn (saw.pid ∷ waiters (wait_in p) saw.pid saw.seq n)) r
unfolding all_enter
winner_first saw turn n a b = renamed (λ x. ap (λ l. all_enter turn (waiters l saw.pid saw.seq n) (enters turn saw.pid x)) (same_wait a.became)) (then a b)
