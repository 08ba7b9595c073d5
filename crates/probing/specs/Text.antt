-- docs/PROBE.md, "What is written": the four lines of a case, and the line that ends the output where the input can't be read. Assumes nothing.
use Rattle.std.specs.Prelude.{Bool, cond, List, [], ◌∷◌, ◌++◌, ℕ, ◌+◌, ◌/◌, ◌%◌, eqb, ltb, get_or}
use Rattle.script.specs.Quote.{quote}
use Rattle.script.specs.Decimal.{decimal}
use Rattle.method.specs.declared.Answer.{Answer}
use Rattle.method.specs.declared.Answer.TheVariants.{Idle, Going, Ended, Refused}
use Rattle.bench.specs.declared.Bench.{Bench}
use Rattle.bench.specs.declared.Turned.{Turned}
use Rattle.bench.specs.Sound.{sound}
use Rattle.bench.specs.Turn.{turn_of}
use Rattle.picture.specs.Picture.{registers, in_bytes, drawing_of}
use Rattle.probing.specs.Numbers.{bench_of, numbers_of}

abbrev pub newline : List ℕ
newline = quote "\n"

-- each number with a space before it
unfoldable pub spaced : List ℕ → List ℕ
spaced [] = []
spaced (x ∷ xs) = quote " " ++ decimal x ++ spaced xs

-- one space between numbers
abbrev pub in_line : List ℕ → List ℕ
in_line [] = []
in_line (x ∷ xs) = decimal x ++ spaced xs

abbrev pub hex_digit : ℕ → ℕ
hex_digit d = cond (ltb d 10) (48 + d) (87 + d)

-- two hexadecimal digits a byte, nothing between them
unfoldable pub hexes : List ℕ → List ℕ
hexes [] = []
hexes (b ∷ bs) = hex_digit (b / 16) ∷ hex_digit (b % 16) ∷ hexes bs

-- 1: the bench given
abbrev pub sound_text : Bool → List ℕ
sound_text b = cond b (quote "sound\n") (quote "unsound\n")

unfoldable pub refused_text : ℕ → List ℕ
refused_text n = quote "refused " ++ decimal n ++ newline

unfoldable pub ended_text : ℕ → ℕ → List ℕ
ended_text result own = quote "ended " ++ decimal result ++ quote " " ++ decimal own ++ newline

-- 2: the turn's answer
unfoldable pub answer_text : Answer → List ℕ
answer_text Idle = quote "idle\n"
answer_text Going = quote "going\n"
answer_text (Ended result own) = ended_text result own
answer_text (Refused n) = refused_text n

-- 3: a bench
unfoldable pub bench_text : Bench → List ℕ
bench_text w = in_line (numbers_of w) ++ newline

-- 4: its picture, drawn where any picture has room
abbrev pub room : ℕ
room = 528

unfoldable pub drawn_text : List ℕ → List ℕ
drawn_text bytes = quote "picture " ++ hexes bytes ++ newline

unfoldable pub picture_text : Bench → List ℕ
picture_text w = cond (eqb (drawing_of w room).refused 0) (drawn_text (in_bytes (registers w))) (refused_text (drawing_of w room).refused)

-- the turn of a case: station, offered kind, a, b
abbrev pub turn_in : List ℕ → Turned
turn_in xs = turn_of (bench_of xs) (get_or xs 534 0) (get_or xs 535 0) (get_or xs 536 0) (get_or xs 537 0)

unfoldable pub case_text : List ℕ → List ℕ
case_text xs =
    sound_text (sound (bench_of xs)) ++ answer_text (turn_in xs).answer ++ bench_text (turn_in xs).bench ++ picture_text (turn_in xs).bench

-- case k can't be read
abbrev pub cut_words : List ℕ
cut_words = quote ": cut\n"

abbrev pub number_words : List ℕ
number_words = quote ": number expected\n"

abbrev pub place_words : List ℕ
place_words = quote ": no such place\n"

unfoldable pub fault_text : ℕ → List ℕ → List ℕ
fault_text k words = quote "case " ++ decimal k ++ words
