-- What is known of the calls of a run. Calls go by a number above 0. Assumes nothing.
use Rattle.std.specs.Prelude.{ℕ}
use Rattle.method.specs.declared.Call.{Call}

-- by call: its station, what it is, its first turn (0: not begun), the turn of its point (0: none), its last turn (0: not ended), its result, its own turns so far
pub record Log : Type 0 where
  pub station : ℕ → ℕ
  pub call : ℕ → Call
  pub first : ℕ → ℕ
  pub point : ℕ → ℕ
  pub last : ℕ → ℕ
  pub result : ℕ → ℕ
  pub own : ℕ → ℕ
