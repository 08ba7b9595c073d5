-- How the code holds a draft and a scan, of which nothing is refused: the word so far is a part of the text. A refusal is told by
-- the error that a step hands back. Assumes nothing.
use Rattle.std.specs.Prelude.{◌≡◌, Bool, true, false, List, [], ◌∷◌, ◌++◌, ℕ, ◌+◌, ◌-◌, ◌<◌, ⊤, Result, MatchResult, length, get_or, take, drop}
use Rattle.drafting.specs.declared.Expected.{Expected}
use Rattle.drafting.specs.declared.Draft.{Draft}
use Rattle.drafting.specs.declared.Within.{Within}
use Rattle.drafting.specs.declared.Within.TheVariants.{Blank, Comment, Word}
use Rattle.drafting.specs.declared.Scan.{Scan}
use Rattle.drafting.specs.Expected.{expected_number}
use Rattle.drafting.specs.Draft.{Drafted, draft}
use Rattle.drafting.specs.Scan.{Scanned, scan}

abbrev pub drafted : Draft → Drafted
drafted d = draft 0 d.stage d.x d.n d.q d.t d.call

-- at place i of the text
abbrev pub in_comment : Within → Bool
in_comment Blank = false
in_comment Comment = true
in_comment (Word start) = false

abbrev pub word_in : List ℕ → ℕ → Within → List ℕ
word_in text i Blank = []
word_in text i Comment = []
word_in text i (Word start) = take (i - start) (drop start text)

abbrev pub scanned : List ℕ → ℕ → Scan → Scanned
scanned text i s = scan s.line (in_comment s.within) (word_in text i s.within) (drafted s.draft)

-- a word has begun before place i
abbrev pub Begun : ℕ → Within → Type 0
Begun i Blank = ⊤
Begun i Comment = ⊤
Begun i (Word start) = start < i

-- a number that a word has to be, or what was expected
abbrev pub Numbered : Result ℕ Expected → Bool → ℕ → ℕ → Type 0
Numbered r there number expected =
    MatchResult r (λ x. (there ≡ true) × (number ≡ x)) (λ y. (there ≡ false) × (expected ≡ expected_number y))

-- what a step hands back of a draft: the draft, or what was expected
abbrev pub Drafts : Result Draft Expected → Drafted → Type 0
Drafts r d = MatchResult r (λ e. d ≡ drafted e) (λ x. d.expected ≡ expected_number x)

-- and of a scan that has come to where no word is
abbrev pub Between : Result Scan Expected → ℕ → Within → Drafted → Type 0
Between r line within d =
    MatchResult r (λ s. (s.line ≡ line) × ((s.within ≡ within) × (d ≡ drafted s.draft))) (λ x. d.expected ≡ expected_number x)

-- what a text lacks
abbrev pub Lacks : Result ⊤ Expected → ℕ → Type 0
Lacks r expected = MatchResult r (λ _. expected ≡ 0) (λ x. expected ≡ expected_number x)

-- a scan to which a byte of a word is added: the byte, and that it is in no comment
abbrev pub Letters : ℕ → Scan → Scan → Type 0
Letters i s s' =
    (text : List ℕ) → i < length text → in_comment s.within ≡ false
    → (scanned text (i + 1) s' ≡ scan s.line false (word_in text i s.within ++ (get_or text i 0 ∷ [])) (drafted s.draft)) × Begun (i + 1) s'.within

-- a scan at which something was refused: on which line, and what was expected there
abbrev pub RefusedAt : Scanned → ℕ → Expected → Type 0
RefusedAt t line x = (t.word ≡ []) × ((t.line ≡ line) × (t.draft.expected ≡ expected_number x))

-- what a byte more makes of a scan, which has come to place i by it
abbrev pub Scans : List ℕ → ℕ → ℕ → Result Scan Expected → Scanned → Type 0
Scans text i line r t =
    MatchResult r (λ s. (t ≡ scanned text i s) × Begun i s.within) (λ x. RefusedAt t line x)
