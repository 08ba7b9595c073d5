-- Document 01, "Numbered refusals": the number and the K of each reason, and the numbers of an answer that is refused or not. Assumes nothing.
use Rattle.std.specs.Prelude.{◌≡◌, ℕ, Result, Ok, Err}
use Rattle.rules.specs.Row.{Verdict, verdict}
use Rattle.rules.specs.declared.Reason.{Reason}
use Rattle.rules.specs.declared.Reason.TheVariants.{FileLength, Form, Stations, Calls, Turns, Lengths, Call, Turn, Unsound, Station, Offer, Count, Version, Room}

abbrev pub number_of : Reason → ℕ
number_of FileLength = 1
number_of Form = 2
number_of Stations = 3
number_of Calls = 4
number_of Turns = 5
number_of Lengths = 6
number_of (Call k) = 7
number_of (Turn k) = 8
number_of Unsound = 9
number_of Station = 10
number_of Offer = 11
number_of Count = 12
number_of Version = 13
number_of Room = 14

-- K is 0 wherever no K is named
abbrev pub k_of : Reason → ℕ
k_of (Call k) = k
k_of (Turn k) = k
k_of _ = 0

-- what an answer says of a refusal: number and K, zeros where nothing is refused
abbrev pub verdict_in : {A : Type 0} → Result A Reason → Verdict
verdict_in (Ok x) = verdict 0 0
verdict_in (Err e) = verdict (number_of e) (k_of e)

-- the numbers of an answer that is a length. Refused, the length is zero
pub record Numbers : Type 0 where
  pub refused : ℕ
  pub k : ℕ
  pub len : ℕ

abbrev pub numbers : Result ℕ Reason → Numbers
numbers (Ok len) = record { refused = 0; k = 0; len = len }
numbers (Err e) = record { refused = number_of e; k = k_of e; len = 0 }

-- no two reasons have the same number and K, and no two such answers the same numbers
pub record NumbersTell : Type 0 where
  pub reasons : (d e : Reason) → number_of d ≡ number_of e → k_of d ≡ k_of e → d ≡ e
  pub answers : (r s : Result ℕ Reason) → numbers r ≡ numbers s → r ≡ s
