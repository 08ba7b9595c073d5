-- What the words of a text say, one word at a time and one line at a time: docs/RUN-TEXT.md. Assumes nothing.
use Rattle.std.specs.Prelude.{Bool, true, false, cond, ◌&&◌, List, [], ◌∷◌, ℕ, ◌+◌, eqb, ltb, leb}
use Rattle.octets.specs.Bytes.{bytes}
use Rattle.rules.specs.Limits.{station_limit, call_limit, turn_limit}
use Rattle.script.specs.Kind.{read_word, set_word, swap_word}
use Rattle.script.specs.Number.{no_number, digit_more}
use Rattle.runfile.specs.declared.CallRecord.{CallRecord}
use Rattle.runfile.specs.Layout.{no_call, record_bytes}
use Rattle.runtext.specs.Letters.{start_word, stations_word, turns_word}
use Rattle.drafting.specs.declared.Stage.{Stage}
use Rattle.drafting.specs.declared.Stage.TheVariants.{Start, StartValue, AfterStart, Stations, Count, AfterCount, Call, Kind, First, Second, AfterCall, Turn}

-- what a word says: whether it is the one that is spelled so, and its number
pub record Said : Type 0 where
  pub is : List ℕ → Bool
  pub number : ℕ

-- a word of digits is a decimal number, and one that is over 4,294,967,295 or has something else in it is none
unfoldable pub number_from : ℕ → List ℕ → ℕ
number_from number [] = number
number_from number (b ∷ bs) = number_from (digit_more number b) bs

-- two rows of bytes are the same, byte for byte
unfoldable pub same_bytes : List ℕ → List ℕ → Bool
same_bytes [] [] = true
same_bytes [] (y ∷ ys) = false
same_bytes (x ∷ xs) [] = false
same_bytes (x ∷ xs) (y ∷ ys) = eqb x y && same_bytes xs ys

-- what the bytes of a word say
abbrev pub said : List ℕ → Said
said bytes = record { is = λ text. same_bytes bytes text; number = number_from 0 bytes }

abbrev pub is_value : Said → Bool
is_value w = ltb w.number no_number

-- a number from 1 to n
abbrev pub is_from1_to : ℕ → Said → Bool
is_from1_to n w = ltb 0 w.number && leb w.number n

-- what was expected, 0 as long as nothing is refused; the word that comes next; what was said so far
pub record Drafted : Type 0 where
  pub expected : ℕ
  pub stage : Stage
  pub x : ℕ
  pub n : ℕ
  pub q : ℕ
  pub t : ℕ
  pub call : CallRecord

abbrev pub draft : ℕ → Stage → ℕ → ℕ → ℕ → ℕ → CallRecord → Drafted
draft expected stage x n q t call =
    record { expected = expected; stage = stage; x = x; n = n; q = q; t = t; call = call }

abbrev pub no_draft : Drafted
no_draft = draft 0 Start 0 0 0 0 no_call

-- at another stage, and refused: what was expected there
abbrev pub to : Drafted → Stage → Drafted
to d stage = draft d.expected stage d.x d.n d.q d.t d.call

abbrev pub refuse : Drafted → ℕ → Drafted
refuse d expected = draft expected d.stage d.x d.n d.q d.t d.call

abbrev pub with_call : Drafted → Stage → ℕ → ℕ → ℕ → ℕ → Drafted
with_call d stage station kind a b =
    draft d.expected stage d.x d.n d.q d.t (record { station = station; kind = kind; a = a; b = b })

-- what can be expected: 1 `start`, 2 a value, 3 the end of the line, 4 `stations`, 5 a number of stations from 1 to 32,
-- 6 a station or `turns`, 7 a kind, 8 a station; 9 and 10: no more calls, no more turns
abbrev pub keyword : Drafted → Bool → Stage → ℕ → Drafted
keyword d b stage expected = cond b (to d stage) (refuse d expected)

unfoldable pub took_start : Drafted → Said → Drafted
took_start d w = cond (is_value w) (draft d.expected AfterStart w.number d.n d.q d.t d.call) (refuse d 2)

unfoldable pub took_count : Drafted → Said → Drafted
took_count d w = cond (is_from1_to station_limit w) (draft d.expected AfterCount d.x w.number d.q d.t d.call) (refuse d 5)

-- the first word of a line: a station, whose call it is, or `turns`
unfoldable pub took_station : Drafted → Said → Drafted
took_station d w =
    cond (w.is turns_word) (to d Turn)
    (cond (is_from1_to d.n w) (with_call d Kind w.number 0 0 0) (refuse d 6))

unfoldable pub took_kind : Drafted → Said → Drafted
took_kind d w =
    cond (w.is read_word) (to d AfterCall)
    (cond (w.is set_word) (with_call d First d.call.station 1 0 0)
    (cond (w.is swap_word) (with_call d First d.call.station 2 0 0) (refuse d 7)))

unfoldable pub took_first : Drafted → Said → Drafted
took_first d w =
    cond (is_value w) (with_call d Second d.call.station d.call.kind w.number 0) (refuse d 2)

unfoldable pub took_second : Drafted → Said → Drafted
took_second d w =
    cond (is_value w) (with_call d AfterCall d.call.station d.call.kind d.call.a w.number) (refuse d 2)

unfoldable pub took_turn : Drafted → Said → Drafted
took_turn d w =
    cond (leb turn_limit d.t) (refuse d 10)
    (cond (is_from1_to d.n w)
    (draft d.expected Turn d.x d.n d.q (d.t + 1) (record { station = w.number; kind = 0; a = 0; b = 0 })) (refuse d 8))

-- a word more
unfoldable pub took_at : Stage → Drafted → Said → Drafted
took_at Start d w = keyword d (w.is start_word) StartValue 1
took_at StartValue d w = took_start d w
took_at AfterStart d w = refuse d 3
took_at Stations d w = keyword d (w.is stations_word) Count 4
took_at Count d w = took_count d w
took_at AfterCount d w = refuse d 3
took_at Call d w = took_station d w
took_at Kind d w = took_kind d w
took_at First d w = took_first d w
took_at Second d w = took_second d w
took_at AfterCall d w = refuse d 3
took_at Turn d w = took_turn d w

-- a call is made where its line ends
unfoldable pub made_call : Drafted → Drafted
made_call d = cond (leb call_limit d.q) (refuse d 9) (draft d.expected Call d.x d.n (d.q + 1) d.t d.call)

-- the line ends
unfoldable pub ended_at : Stage → Drafted → Drafted
ended_at Start d = d
ended_at StartValue d = refuse d 2
ended_at AfterStart d = to d Stations
ended_at Stations d = d
ended_at Count d = refuse d 5
ended_at AfterCount d = to d Call
ended_at Call d = d
ended_at Kind d = refuse d 7
ended_at First d = refuse d 2
ended_at Second d = refuse d 2
ended_at AfterCall d = made_call d
ended_at Turn d = d

-- the text ends: what was expected before it could, and 0 where all is there
unfoldable pub lacking_at : Stage → ℕ
lacking_at Start = 1
lacking_at StartValue = 2
lacking_at AfterStart = 4
lacking_at Stations = 4
lacking_at Count = 5
lacking_at AfterCount = 0
lacking_at Call = 0
lacking_at Kind = 7
lacking_at First = 2
lacking_at Second = 2
lacking_at AfterCall = 0
lacking_at Turn = 0

-- the bytes that a draft adds to the call table and to the turns, where it has a call or a turn more than before
unfoldable pub call_from : ℕ → Drafted → List ℕ
call_from q d = cond (eqb q d.q) [] (record_bytes d.call)

unfoldable pub turn_from : ℕ → Drafted → List ℕ
turn_from t d = cond (eqb t d.t) [] (bytes 1 d.call.station)

abbrev pub call_made : Drafted → Drafted → List ℕ
call_made d d' = call_from d.q d'

abbrev pub turn_made : Drafted → Drafted → List ℕ
turn_made d d' = turn_from d.t d'
