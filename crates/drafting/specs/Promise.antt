-- What is promised of texts as run files: a printed file is turned back into the same bytes, a text that is not refused tells a good
-- run, a buffer of 53,264 bytes is always enough, and the contract settles all. Assumes nothing.
use Rattle.std.specs.Prelude.{◌≡◌, List, ◌++◌, ℕ, ◌≤◌, Result, length, take, drop}
use Rattle.octets.specs.Bytes.{AllBytes}
use Rattle.runfile.specs.Reading.{longest}
use Rattle.runfile.specs.Promise.{Holds}
use Rattle.rules.specs.Reason.{Numbers}
use Rattle.runtext.specs.Text.{PrintedTo}
use Rattle.drafting.specs.declared.Expected.{Expected}
use Rattle.drafting.specs.declared.Complaint.{Complaint}
use Rattle.drafting.specs.Expected.{expected_number}
use Rattle.drafting.specs.Parse.{last_draft, table_in, turns_in, Parsed, parsed, parsed_numbers, parse_of, ParsedTo}

-- a file that was printed on a page, and the page's text parsed: the same bytes, given room
pub record TurnedBack (file out : List ℕ) (answer : Parsed) (after : List ℕ) : Type 0 where
  pub answered : answer ≡ parsed 0 0 (length file)
  pub left : after ≡ file ++ drop (length file) out

unfoldable pub PrintedReadsBack : Type 0
PrintedReadsBack =
    (file page page' out after : List ℕ) (p : Numbers) (answer : Parsed) → AllBytes file → PrintedTo file page p page' → p.refused ≡ 0
    → length file ≤ length out → ParsedTo (take p.len page') out answer after → TurnedBack file out answer after

-- the file that a text gives reads well, and holds what the text tells
unfoldable pub TextsTellGoodRuns : Type 0
TextsTellGoodRuns =
    (text out after : List ℕ) (answer : Parsed) → ParsedTo text out answer after → answer.expected ≡ 0
    → Holds (take answer.len after) (last_draft text).x (last_draft text).n (table_in text) (turns_in text)

-- 14 is never given to a buffer of as many bytes as the longest file has, 53,264
unfoldable pub ParseEnough : Type 0
ParseEnough = (text : List ℕ) (room : ℕ) → longest ≤ room → (parse_of text room).expected ≡ 14 → ⊥

-- two answers with their buffers that the contract allows for one input are the same: of any numbers, and of what the numbers are of
pub record ParseSettled : Type 0 where
  pub by_numbers : (text out : List ℕ) (a b : Parsed) (c d : List ℕ) → ParsedTo text out a c → ParsedTo text out b d → (a ≡ b) × (c ≡ d)
  pub answers :
      (text out : List ℕ) (r s : Result ℕ Complaint) (c d : List ℕ) → ParsedTo text out (parsed_numbers r) c → ParsedTo text out (parsed_numbers s) d
      → (r ≡ s) × (c ≡ d)

-- no two things that can be expected have the same number, and no two answers the same numbers
pub record NumbersTell : Type 0 where
  pub expected : (d e : Expected) → expected_number d ≡ expected_number e → d ≡ e
  pub answers : (r s : Result ℕ Complaint) → parsed_numbers r ≡ parsed_numbers s → r ≡ s
