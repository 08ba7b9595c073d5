-- Document 01, "Report": what a program writes, a text or the line that tells a refusal, and how it stands in a lent buffer. Assumes
-- nothing.
use Rattle.std.specs.Prelude.{◌≡◌, cond, List, ◌++◌, ℕ, ◌≤◌, min, eqb, length, take}
use Rattle.std.proofs.lemmas.List.Edits.{sets}
use Rattle.script.specs.Quote.{quote}
use Rattle.script.specs.Decimal.{decimal}

-- `refused N K`, with one space between, and a newline
unfoldable pub refused_text : ℕ → ℕ → List ℕ
refused_text n k = quote "refused " ++ decimal n ++ quote " " ++ decimal k ++ quote "\n"

-- the text where nothing is refused, and the line of the refusal otherwise
unfoldable pub output_of : ℕ → ℕ → List ℕ → List ℕ
output_of refused k text = cond (eqb refused 0) text (refused_text refused k)

-- the output stands at the front of the buffer, as far as that goes, and len of its bytes are there
pub record OutputTo (output out : List ℕ) (len : ℕ) (after : List ℕ) : Type 0 where
  pub shown : len ≡ min (length output) (length out)
  pub left : after ≡ sets out 0 output

-- two lengths with their buffers that the contract allows for one output are the same
unfoldable pub OutputSettled : Type 0
OutputSettled =
    (output out : List ℕ) (i j : ℕ) (a b : List ℕ) → OutputTo output out i a → OutputTo output out j b → (i ≡ j) × (a ≡ b)

-- where the buffer has room for it, the front of the buffer is the output
unfoldable pub OutputWhole : Type 0
OutputWhole =
    (output out : List ℕ) (len : ℕ) (after : List ℕ) → length output ≤ length out → OutputTo output out len after → take len after ≡ output
