-- The words of a run's text, as bytes; those for a call's kind are `script`'s. Assumes nothing.
use Rattle.std.specs.Prelude.{List, ℕ}
use Rattle.script.specs.Quote.{quote}

abbrev pub newline : ℕ
newline = 10

abbrev pub space : ℕ
space = 32

abbrev pub start_word : List ℕ
start_word = quote "start"

abbrev pub stations_word : List ℕ
stations_word = quote "stations"

abbrev pub turns_word : List ℕ
turns_word = quote "turns"
