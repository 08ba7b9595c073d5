-- How long the word for a call's kind is. Assumes nothing.
use Prim.Native.Nat.{ℕ, ◌≤◌}
use native.Mathlib.Omega.{arith}
use lib.Dec.{eqb}
use lib.ListN.{length}
use Rattle.rules.proofs.Facts.{either_way}
use Rattle.script.specs.Kind.{kind_word}

pub length-kind : (kind : ℕ) → length (kind_word kind) ≤ 4
unfolding kind_word
length-kind kind =
    either_way (eqb kind 0) (λ t. rw t (omega arith))
    (λ f. rw f (either_way (eqb kind 1) (λ t. rw t (omega arith)) (λ g. rw g (omega arith))))
