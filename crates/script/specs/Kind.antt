-- The word for a call's kind. Assumes nothing.
use Rattle.std.specs.Prelude.{cond, List, ℕ, eqb}
use Rattle.script.specs.Quote.{quote}

abbrev pub read_word : List ℕ
read_word = quote "read"

abbrev pub set_word : List ℕ
set_word = quote "set"

abbrev pub swap_word : List ℕ
swap_word = quote "swap"

-- kind 0 is read, 1 set, any other swap
unfoldable pub kind_word : ℕ → List ℕ
kind_word kind = cond (eqb kind 0) read_word (cond (eqb kind 1) set_word swap_word)
