-- The tables of the base rise, so the lowest number that holds is given. Assumes nothing.
use mathlib.Core.Path.{◌≡◌, refl, ◌∙◌, sym, subst⁻¹}
use mathlib.Core.Bool.{true, true≢false}
use mathlib.Core.List.{List}
use Prim.Native.Nat.{ℕ}
use borrow.Author.Tests.{eqb-true, eq-eqb}
use lib.Dec.{eqb}
use lib.ListN.{length}
use Rattle.rules.specs.Refusal.{Refusal, refusal_of, rising, LowestIsGiven}
use Rattle.rules.specs.Row.{refusals}
use Rattle.rules.proofs.Facts.{either_way}
use Rattle.rules.proofs.Exactly.{lowest_given}
use Rattle.runfile.specs.Reading.{read_rows}
use Rattle.runfile.specs.Writing.{write_rows}
use Rattle.runfile.proofs.Exact.{refused_exactly}
use Rattle.reach.specs.Reach.{move_refusals}
use Rattle.bench.specs.declared.Bench.{Bench}
use Rattle.bench.specs.Turn.{fresh_refusals, fresh_of}
use Rattle.bench.specs.Promise.{refusals_of}
use Rattle.rules.specs.Reason.{Numbers}
use Rattle.picture.specs.Picture.{picture_refusals, drawing_of, drawn_on, DrawnTo}
use Rattle.promises.specs.Refused.{Rises, FreshRefused, PictureRefused, LowestRefusals}

by_rising : (rs : List Refusal) → rising rs ≡ true → Rises rs
unfolding LowestIsGiven
by_rising rs e = record { rises = e; lowest = lowest_given rs e }

fresh : (x n : ℕ) → FreshRefused x n (fresh_of x n)
unfolding fresh_of
fresh x n =
    let number = refusal_of (fresh_refusals n) in
    let table = by_rising (fresh_refusals n) refl in
    either_way (eqb number 0)
    (λ e.
    let z = eqb-true number 0 e in
    rw e (record { number = record { given = sym z; table = table }; zeros = λ h. absurd (h refl); made = λ h. refl }))
    (λ e. rw e (record { number = record { given = refl; table = table }; zeros = λ h. refl; made = λ h. absurd (true≢false (sym (eq-eqb number 0 h) ∙ e)) }))

drawn : (w : Bench) (out : List ℕ) → PictureRefused w out (drawing_of w (length out)) (drawn_on w out)
unfolding drawing_of drawn_on
drawn w out =
    let number = refusal_of (picture_refusals w (length out)) in
    let table = by_rising (picture_refusals w (length out)) refl in
    either_way (eqb number 0)
    (λ e.
    let z = eqb-true number 0 e in
    rw e (record { number = record { given = sym z; table = table }; empty = λ h. absurd (h refl); same = λ h. absurd (h refl) }))
    (λ e. rw e (record { number = record { given = refl; table = table }; empty = λ h. refl; same = λ h. refl }))

picture : (w : Bench) (out : List ℕ) (answer : Numbers) (after : List ℕ) → DrawnTo w out answer after → PictureRefused w out answer after
picture w out answer after d =
    subst⁻¹ (λ r. PictureRefused w out r after) d.answered (subst⁻¹ (λ l. PictureRefused w out (drawing_of w (length out)) l) d.left (drawn w out))

pub lowest_refusals : LowestRefusals
lowest_refusals =
    record {
      reader = λ f. record { given = (refused_exactly.reader f).number; table = by_rising (refusals (read_rows f)) refl };
      writer =
          λ n table turns room. record {
            given = (refused_exactly.writer n table turns room).number;
            table = by_rising (refusals (write_rows n table turns room)) refl;
          };
      turn = λ w u. by_rising (refusals_of w u) refl;
      move = λ g kind a b. by_rising (move_refusals g kind a b) refl;
      fresh = fresh;
      picture = picture;
    }
