-- The line that tells a person why a text cannot be read. Assumes nothing.
use Rattle.std.specs.Prelude.{cond, List, [], ◌∷◌, ◌++◌, ℕ, min, eqb}
use Rattle.rules.specs.Limits.{station_limit, call_limit, turn_limit}
use Rattle.script.specs.Decimal.{decimal}
use Rattle.script.specs.Quote.{quote}
use Rattle.runtext.specs.Letters.{newline}
use Rattle.drafting.specs.Parse.{Parsed}

-- the words for what was expected, by its number
unfoldable pub words_for : ℕ → List ℕ
words_for expected =
    cond (eqb expected 1) (quote "start")
    (cond (eqb expected 2) (quote "a value from 0 to 4294967295")
    (cond (eqb expected 3) (quote "the end of the line")
    (cond (eqb expected 4) (quote "stations")
    (cond (eqb expected 5) (quote "a number of stations from 1 to " ++ decimal station_limit)
    (cond (eqb expected 6) (quote "a station or turns")
    (cond (eqb expected 7) (quote "read, set or swap")
    (cond (eqb expected 8) (quote "a station")
    (cond (eqb expected 9) (quote "no more than " ++ decimal call_limit ++ quote " calls")
    (cond (eqb expected 10) (quote "no more than " ++ decimal turn_limit ++ quote " turns") (quote "a longer buffer"))))))))))

-- the line number is counted no further than the largest value
unfoldable pub complaint_of : Parsed → List ℕ
complaint_of p =
    quote "line " ++ decimal (min p.line 4294967295) ++ quote ": expected " ++ words_for p.expected ++ (newline ∷ [])
