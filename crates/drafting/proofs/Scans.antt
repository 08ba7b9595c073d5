-- A text scanned in parts: one after the other, and a byte at a time. Assumes nothing.
use mathlib.Core.Path.{◌≡◌, refl, ◌∙◌, sym, ap}
use mathlib.Core.List.{List, [], ◌∷◌, ◌++◌, append_assoc, append-nil}
use Prim.Native.Nat.{ℕ, ◌+◌, ◌<◌}
use native.Mathlib.Numerals.{add-one}
use lib.ListN.{length, get_or, take}
use lib.Seq.{take-suc}
use Rattle.drafting.specs.Draft.{Drafted}
use Rattle.drafting.specs.Scan.{Scanned, step, run, given}

pub run_both : (s : Scanned) (xs ys : List ℕ) → run s (xs ++ ys) ≡ run (run s xs) ys
unfolding run
run_both s [] ys = refl
run_both s (x ∷ xs) ys = run_both (step s x) xs ys

pub given_both : (made : Drafted → Drafted → List ℕ) (s : Scanned) (xs ys : List ℕ)
    → given made s (xs ++ ys) ≡ given made s xs ++ given made (run s xs) ys
unfolding run given
given_both made s [] ys = refl
given_both made s (x ∷ xs) ys =
    ap (λ l. made s.draft (step s x).draft ++ l) (given_both made (step s x) xs ys)
    ∙ sym (append_assoc (made s.draft (step s x).draft) (given made (step s x) xs) (given made (run (step s x) xs) ys))

module _ (s : Scanned) (text : List ℕ) (i : ℕ) (h : i < length text) where
  abbrev before : Scanned
  before = run s (take i text)

  abbrev after : Scanned
  after = step before (get_or text i 0)

  more : take (i + 1) text ≡ take i text ++ (get_or text i 0 ∷ [])
  more = ap (λ k. take k text) (add-one i) ∙ take-suc text i 0 h

  pub run_more : run s (take (i + 1) text) ≡ step (run s (take i text)) (get_or text i 0)
  unfolding run
  run_more = ap (run s) more ∙ run_both s (take i text) (get_or text i 0 ∷ [])

  pub given_more : (made : Drafted → Drafted → List ℕ)
      → given made s (take (i + 1) text)
      ≡ given made s (take i text) ++ made (run s (take i text)).draft (step (run s (take i text)) (get_or text i 0)).draft
  unfolding given
  given_more made =
      ap (given made s) more
      ∙ given_both made s (take i text) (get_or text i 0 ∷ [])
      ∙ ap (λ l. given made s (take i text) ++ l) (append-nil (made before.draft after.draft))
