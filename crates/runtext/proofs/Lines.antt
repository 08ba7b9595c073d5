-- A call and a turn more of what is written. Assumes nothing.
use mathlib.Core.Path.{◌≡◌}
use mathlib.Core.List.{List}
use Prim.Native.Nat.{ℕ, ◌+◌}
use native.Mathlib.Numerals.{add-one}
use Rattle.script.specs.declared.Page.{Page}
use Rattle.script.specs.Page.{Writes}
use Rattle.script.proofs.Pages.{then}
use Rattle.runfile.specs.declared.CallRecord.{CallRecord}
use Rattle.runfile.specs.Layout.{call_of}
use Rattle.runtext.specs.Text.{call_text, calls_text, turn_text, rows_text}

module _ {p q r : Page} where
  pub call_more : (table : List ℕ) (i : ℕ) (c : CallRecord) → c ≡ call_of table (i + 1)
      → Writes p q (calls_text table i) → Writes q r (call_text c) → Writes p r (calls_text table (i + 1))
  unfolding calls_text
  call_more table i c e v w = rw add-one (then v (rw (← add-one i, ← e) w))

  pub turn_more : (turns : List ℕ) (i : ℕ) → Writes p q (rows_text turns i) → Writes q r (turn_text turns i) → Writes p r (rows_text turns (i + 1))
  unfolding rows_text
  turn_more turns i v w = rw add-one (then v w)
