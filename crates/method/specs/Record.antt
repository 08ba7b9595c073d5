-- A station's record and a turn's answer. Assumes nothing.
use Rattle.std.specs.Prelude.{◌≡◌, Bool, ℕ, eqb, Result, MatchResult}
use Rattle.card.specs.declared.Halves.{Halves}
use Rattle.card.specs.declared.Claim.{Claim}
use Rattle.card.specs.Register.{halves, claim}
use Rattle.method.specs.declared.Place.{Place}
use Rattle.method.specs.declared.Place.TheVariants.{Rest, At11, At12, At13, At14, At15, At16, At18, At19, At20}
use Rattle.method.specs.declared.NoPlace.{NoPlace}
use Rattle.method.specs.declared.Call.{Call}
use Rattle.method.specs.declared.Station.{Station}
use Rattle.method.specs.declared.Answer.{Answer}
use Rattle.method.specs.declared.Answer.TheVariants.{Idle, Going, Ended, Refused}

-- place numbers are 001's line numbers; 0 is at rest
abbrev pub num : Place → ℕ
num Rest = 0
num At11 = 11
num At12 = 12
num At13 = 13
num At14 = 14
num At15 = 15
num At16 = 16
num At18 = 18
num At19 = 19
num At20 = 20

-- what a number names: the place with this number, or an error where no place has it
abbrev pub Names : ℕ → Result Place NoPlace → Type 0
Names x r = MatchResult r (λ p. num p ≡ x) (λ e. (p : Place) → num p ≡ x → ⊥)

abbrev pub at_rest : Place → Bool
at_rest p = eqb (num p) 0

abbrev pub call : ℕ → ℕ → ℕ → Call
call k a b = record { kind = k; a = a; b = b }

abbrev pub station : Place → Call → ℕ → ℕ → ℕ → Claim → Halves → Station
station q o s own c saw e = record { place = q; call = o; s = s; own = own; c = c; saw = saw; entry = e }

-- at rest: zero in all but c
abbrev pub resting : ℕ → Station
resting c = station Rest (call 0 0 0) 0 0 c (claim 0 0 0) (halves 0 0)

-- the answer of a turn is one of four: 0 idle, 1 going, 2 ended with its result and own turns, 3 refused with a number
pub record Told : Type 0 where
  pub case : ℕ
  pub result : ℕ
  pub own : ℕ
  pub refusal : ℕ

abbrev pub told : Answer → Told
told Idle = record { case = 0; result = 0; own = 0; refusal = 0 }
told Going = record { case = 1; result = 0; own = 0; refusal = 0 }
told (Ended result own) = record { case = 2; result = result; own = own; refusal = 0 }
told (Refused number) = record { case = 3; result = 0; own = 0; refusal = number }
