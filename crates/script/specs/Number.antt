-- A number read a digit at a time, and the same where the code keeps it as a number or none. Assumes nothing.
use Rattle.std.specs.Prelude.{Bool, cond, ◌&&◌, ℕ, ◌+◌, ◌*◌, ◌-◌, ltb, leb, Option, Some, None}

-- a word of digits is a decimal number, and one that is over 4,294,967,295 or has something else in it is none
abbrev pub no_number : ℕ
no_number = 4294967296

abbrev pub is_digit : ℕ → Bool
is_digit b = leb 48 b && leb b 57

abbrev pub digit_more : ℕ → ℕ → ℕ
digit_more number b = cond (is_digit b && ltb number no_number) (10 * number + (b - 48)) no_number

-- a number of no_number or more is none
abbrev pub as_number : ℕ → Option ℕ
as_number n = cond (ltb n no_number) (Some n) None

abbrev pub number_in : Option ℕ → ℕ
number_in (Some n) = n
number_in None = no_number

abbrev pub number_more : Option ℕ → ℕ → Option ℕ
number_more number b = as_number (digit_more (number_in number) b)
