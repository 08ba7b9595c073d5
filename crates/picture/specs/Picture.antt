-- Document 01, "Registers", the picture: the registers as 64-bit words, each little-endian, and its refusals 9 and 14. Assumes nothing.
use Rattle.std.specs.Prelude.{◌≡◌, cond, not, List, [], ◌∷◌, ◌++◌, ℕ, zero, suc, ◌+◌, ◌*◌, ltb, eqb, get_or, length, drop}
use Rattle.rules.specs.Refusal.{Refusal, refusal, refusal_of}
use Rattle.octets.specs.Bytes.{bytes}
use Rattle.card.specs.declared.Halves.{Halves}
use Rattle.card.specs.Register.{halves}
use Rattle.card.specs.Word.{revision_a, word_of, claim_word}
use Rattle.bench.specs.declared.Bench.{Bench}
use Rattle.bench.specs.Sound.{sound}
use Rattle.rules.specs.Reason.{Numbers}

-- the words of entries 1 to k
unfoldable pub entry_words : List Halves → ℕ → List ℕ
entry_words l zero = []
entry_words l (suc k) = entry_words l k ++ (word_of (get_or l (suc k) (halves 0 0)) ∷ [])

-- V, P, A[1..n], R[1..n] as 64-bit words
abbrev pub registers : Bench → List ℕ
registers w = word_of w.v ∷ claim_word revision_a w.p ∷ (entry_words w.a w.n ++ entry_words w.r w.n)

-- each word little-endian
unfoldable pub in_bytes : List ℕ → List ℕ
in_bytes [] = []
in_bytes (x ∷ xs) = bytes 8 x ++ in_bytes xs

abbrev pub picture_size : Bench → ℕ
picture_size w = 16 + 16 * w.n

-- 9: bench not sound. 14: lent buffer shorter than the output
abbrev pub picture_refusals : Bench → ℕ → List Refusal
picture_refusals w room = refusal 9 (not (sound w)) ∷ refusal 14 (ltb room (picture_size w)) ∷ []

unfoldable pub drawing_of : Bench → ℕ → Numbers
drawing_of w room =
    let number = refusal_of (picture_refusals w room) in
    cond (eqb number 0) (record { refused = 0; k = 0; len = picture_size w }) (record { refused = number; k = 0; len = 0 })

-- the buffer afterwards: refused, no byte changes; else just the output's bytes do
unfoldable pub drawn_on : Bench → List ℕ → List ℕ
drawn_on w out =
    cond (eqb (refusal_of (picture_refusals w (length out))) 0) (in_bytes (registers w) ++ drop (picture_size w) out) out

-- the contract of `picture`: its answer, and the lent buffer afterwards
pub record DrawnTo (w : Bench) (out : List ℕ) (answer : Numbers) (after : List ℕ) : Type 0 where
  pub answered : answer ≡ drawing_of w (length out)
  pub left : after ≡ drawn_on w out
