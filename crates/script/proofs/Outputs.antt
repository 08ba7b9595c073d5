-- A program's output in a lent buffer: a text that has room, or the line of a refusal as far as the buffer goes. Assumes nothing.
use mathlib.Core.Path.{◌≡◌, refl, ◌∙◌, sym, ap}
use mathlib.Core.Bool.{cond}
use mathlib.Core.List.{List, ◌++◌}
use Prim.Native.Nat.{ℕ, ◌^◌, ◌<◌, ◌≤◌}
use native.Mathlib.Omega.{arith}
use borrow.Author.Tests.{eq-eqb, ne_eqb, eqb-true, eqb-false, le-ltb, ltb-false}
use lib.Dec.{eqb, ltb}
use lib.ListN.{length, take, drop, length-append}
use lib.Seq.{take_at}
use Rattle.rules.specs.Limits.{turn_limit}
use Rattle.rules.proofs.Facts.{either_way}
use Rattle.octets.proofs.Buffers.{in_front}
use Rattle.script.specs.Output.{refused_text, output_of, OutputTo, OutputSettled, OutputWhole}
use Rattle.script.proofs.Decimals.{length-decimal-32}

length-refused : (n k : ℕ) → n < 2 ^ 32 → k < 2 ^ 32 → length (refused_text n k) ≤ 30
unfolding refused_text
length-refused n k h g = simp length-append (omega (arith, length-decimal-32 n h, length-decimal-32 k g))

-- nothing refused, and the text in front of the rest of the buffer
text_shown : (refused k : ℕ) (text out : List ℕ) {after : List ℕ} → refused ≡ 0 → length text ≤ length out
    → after ≡ text ++ drop (length text) out → OutputTo (output_of refused k text) out (length text) after
unfolding output_of
text_shown refused k text out e h w =
    rw (eq-eqb refused 0 e) (record { shown = omega arith; left = w ∙ sym (in_front out text (length text) refl h) })

-- what an answer tells of a text and a buffer of room bytes: K is small, and a text that is not refused has its place and length
pub record Answered (text : List ℕ) (room refused k len : ℕ) : Type 0 where
  pub few : k ≤ turn_limit
  pub whole : refused ≡ 0 → (len ≡ length text) × (length text ≤ room)

-- the answer where there is a text to write: what was given is refused with its K, or 14 where the buffer is shorter than the text
module _ {A : Type 0} (made : ℕ → ℕ → ℕ → A) (r k : ℕ) (text : List ℕ) (room : ℕ) where
  abbrev answer : A
  answer = cond (eqb r 0) (cond (ltb room (length text)) (made 14 0 0) (made 0 0 (length text))) (made r k 0)

  pub answered : (Q : A → Type 0) → k ≤ turn_limit → ((refused k len : ℕ) → Answered text room refused k len → Q (made refused k len)) → Q answer
  answered Q small q =
      either_way (eqb r 0)
      (λ t.
      either_way (ltb room (length text))
      (λ s. rw (t, s) (q 14 0 0 (record { few = omega arith; whole = λ z. absurd (omega arith) })))
      (λ s. rw (t, s) (q 0 0 (length text) (record { few = omega arith; whole = λ z. (refl, ltb-false room (length text) s) }))))
      (λ f. rw f (q r k 0 (record { few = small; whole = λ z. absurd (eqb-false r 0 f z) })))

  -- a buffer that has room for the text and for a line takes the whole output
  pub whole_output : (Q : A → Type 0) → (r ≡ 0 → length text ≤ room) → 30 ≤ room → r < 2 ^ 32 → k < 2 ^ 32
      → ((refused i len : ℕ) → (output_of refused i text ≡ output_of r k text) × (length (output_of refused i text) ≤ room) → Q (made refused i len)) → Q answer
  unfolding output_of
  whole_output Q fits line few small q =
      either_way (eqb r 0)
      (λ t.
      let h = fits (eqb-true r 0 t) in
      rw (t, le-ltb room (length text) h) (q 0 0 (length text) (rw t refl, h)))
      (λ f.
      let l = length-refused r k few small in
      rw f (q r k 0 (refl, rw f (omega arith))))

-- such an answer's text is there, or its line
module _ {text out : List ℕ} {refused k len : ℕ} (a : Answered text (length out) refused k len) {after : List ℕ}
    (left : after ≡ cond (eqb refused 0) (text ++ drop (length text) out) out) where
  pub text_there : refused ≡ 0 → OutputTo (output_of refused k text) out len after
  text_there z =
      let f = a.whole z in
      rw f.0 (text_shown refused k text out z f.1 (left ∙ rw (eq-eqb refused 0 z) refl))

  pub line_there : (refused ≡ 0 → ⊥) → {after' : List ℕ} {shown : ℕ} → OutputTo (refused_text refused k) after shown after'
      → OutputTo (output_of refused k text) out shown after'
  unfolding output_of
  line_there h v =
      let e : after ≡ out = left ∙ rw (ne_eqb refused 0 h) refl in
      rw (ne_eqb refused 0 h) (rw e at v)

pub outputs_are_settled : OutputSettled
unfolding OutputSettled
outputs_are_settled output out i j a b v w = (v.shown ∙ sym w.shown, v.left ∙ sym w.left)

pub outputs_are_whole : OutputWhole
unfolding OutputWhole
outputs_are_whole output out len after h v =
    let e : len ≡ length output = let s = v.shown in omega arith in
    ap (λ k. take k after) e
    ∙ ap (take (length output)) (v.left ∙ in_front out output (length output) refl h)
    ∙ take_at output (drop (length output) out) (length output) refl
