-- Number and K tell a reason: it is had back from them. Assumes nothing.
use mathlib.Core.Path.{◌≡◌, refl, sym, ap, ◌∙◌}
use Prim.Native.Nat.{ℕ}
use native.Mathlib.Omega.{arith}
use borrow.Author.Tests.{ne_eqb}
use Rattle.std.specs.Prelude.{Result, Ok, Err, cond, eqb}
use Rattle.rules.specs.Reason.{number_of, k_of, Numbers, numbers, NumbersTell}
use Rattle.rules.specs.declared.Reason.{Reason}
use Rattle.rules.specs.declared.Reason.TheVariants.{FileLength, Form, Stations, Calls, Turns, Lengths, Call, Turn, Unsound, Station, Offer, Count, Version, Room}

-- a reason with this number and K; what no reason has is taken for the last one
reason_with : ℕ → ℕ → Reason
reason_with n k =
    cond (eqb n 1) FileLength (cond (eqb n 2) Form (cond (eqb n 3) Stations (cond (eqb n 4) Calls (cond (eqb n 5) Turns
    (cond (eqb n 6) Lengths (cond (eqb n 7) (Call k) (cond (eqb n 8) (Turn k) (cond (eqb n 9) Unsound (cond (eqb n 10) Station
    (cond (eqb n 11) Offer (cond (eqb n 12) Count (cond (eqb n 13) Version Room))))))))))))

-- an answer's reason, where its number is not 0
answer_with : Numbers → Result ℕ Reason
answer_with x = cond (eqb x.refused 0) (Ok x.len) (Err (reason_with x.refused x.k))

had_back : (e : Reason) → reason_with (number_of e) (k_of e) ≡ e
unfolding reason_with
had_back FileLength = refl
had_back Form = refl
had_back Stations = refl
had_back Calls = refl
had_back Turns = refl
had_back Lengths = refl
had_back (Call k) = refl
had_back (Turn k) = refl
had_back Unsound = refl
had_back Station = refl
had_back Offer = refl
had_back Count = refl
had_back Version = refl
had_back Room = refl

-- no reason has number 0: what is had back from it is the last, of number 14
pub above : (e : Reason) → number_of e ≡ 0 → ⊥
unfolding reason_with
above e h =
    let last : e ≡ Room = sym (had_back e) ∙ ap (λ n. reason_with n (k_of e)) h in
    omega (arith, ap number_of last)

answer_back : (r : Result ℕ Reason) → answer_with (numbers r) ≡ r
unfolding answer_with
answer_back (Ok len) = refl
answer_back (Err e) = rw (ne_eqb (number_of e) 0 (above e)) (ap Err (had_back e))

pub numbers_tell : NumbersTell
numbers_tell = record {
  reasons = λ d e n k. sym (had_back d) ∙ rw (n, k) (had_back e);
  answers = λ r s e. sym (answer_back r) ∙ rw e (answer_back s);
}
