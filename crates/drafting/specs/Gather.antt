-- What is gathered from a text on two pages, one for the call table and one for the turns. Assumes nothing.
use Rattle.std.specs.Prelude.{◌≡◌, List, ℕ, Result, MatchResult, length}
use Rattle.script.specs.declared.Page.{Page}
use Rattle.script.specs.Page.{Writes}
use Rattle.drafting.specs.declared.Expected.{Expected}
use Rattle.drafting.specs.declared.Complaint.{Complaint}
use Rattle.drafting.specs.declared.Draft.{Draft}
use Rattle.drafting.specs.declared.Scan.{Scan}
use Rattle.drafting.specs.Expected.{expected_number}
use Rattle.drafting.specs.Draft.{call_made, turn_made}
use Rattle.drafting.specs.Scan.{no_scan, line_ended, run, given}
use Rattle.drafting.specs.Held.{drafted, scanned, Begun, RefusedAt}
use Rattle.drafting.specs.Parse.{last_draft, lacking, table_in, turns_in}

-- rows are written after those that stand on the page of the calls, and turns after those on the page of the moves
pub record Filled (calls calls' : Page) (rows : List ℕ) (moves moves' : Page) (turns : List ℕ) : Type 0 where
  pub called : Writes calls calls' rows
  pub turned : Writes moves moves' turns

-- the bytes xs of a text, which end at place i: the scan, with what stands on the two pages by then
pub record Gathered (text : List ℕ) (i : ℕ) (calls calls' moves moves' : Page) (s : Scan) (xs : List ℕ) : Type 0 where
  pub reads : run no_scan xs ≡ scanned text i s
  pub begun : Begun i s.within
  pub rows : Filled calls calls' (given call_made no_scan xs) moves moves' (given turn_made no_scan xs)

abbrev pub GatheredTo : List ℕ → Page → Page → Page → Page → Result Scan Complaint → Type 0
GatheredTo text calls calls' moves moves' r =
    MatchResult r (λ s. Gathered text (length text) calls calls' moves moves' s text) (λ c. RefusedAt (run no_scan text) c.line c.expected)

-- the end of a text, scanned so far
abbrev pub Lasts : List ℕ → Scan → Result Draft Expected → Type 0
Lasts text s r =
    MatchResult r (λ d. (line_ended (scanned text (length text) s) ≡ drafted d) × (lacking (drafted d) ≡ 0))
    (λ x. lacking (line_ended (scanned text (length text) s)) ≡ expected_number x)

-- what a text tells: its last draft with the two pages, or the line and what was expected there
pub record Told (text : List ℕ) (calls calls' moves moves' : Page) (d : Draft) : Type 0 where
  pub last : last_draft text ≡ drafted d
  pub whole : lacking (last_draft text) ≡ 0
  pub rows : Filled calls calls' (table_in text) moves moves' (turns_in text)

pub record Complains (text : List ℕ) (c : Complaint) : Type 0 where
  pub line : (run no_scan text).line ≡ c.line
  pub lacks : lacking (last_draft text) ≡ expected_number c.expected

abbrev pub ToldTo : List ℕ → Page → Page → Page → Page → Result Draft Complaint → Type 0
ToldTo text calls calls' moves moves' r = MatchResult r (λ d. Told text calls calls' moves moves' d) (λ c. Complains text c)
