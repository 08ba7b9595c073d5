-- What is promised of a run file as text: a buffer of 153,635 bytes is always enough, and the contract settles all. Assumes nothing.
use Rattle.std.specs.Prelude.{◌≡◌, List, ℕ, ◌≤◌, Result}
use Rattle.octets.specs.Bytes.{AllBytes}
use Rattle.runfile.specs.Reading.{read_of}
use Rattle.rules.specs.declared.Reason.{Reason}
use Rattle.rules.specs.Reason.{Numbers, numbers}
use Rattle.runtext.specs.Text.{print_of, PrintedTo}

-- 14 is never given to a buffer of 153,635 bytes: a file is refused there as it is when it is read
unfoldable pub AlwaysEnough : Type 0
AlwaysEnough = (file : List ℕ) (room : ℕ) → AllBytes file → 153635 ≤ room → (print_of file room).refused ≡ (read_of file).refused

-- two answers with their buffers that the contract allows for one input are the same: of any numbers, and of what the numbers are of
pub record PrintSettled : Type 0 where
  pub by_numbers : (file out : List ℕ) (a b : Numbers) (c d : List ℕ) → PrintedTo file out a c → PrintedTo file out b d → (a ≡ b) × (c ≡ d)
  pub answers :
      (file out : List ℕ) (r s : Result ℕ Reason) (c d : List ℕ) → PrintedTo file out (numbers r) c → PrintedTo file out (numbers s) d → (r ≡ s) × (c ≡ d)
