-- Texts laid into a buffer, one after the other. Assumes nothing.
use mathlib.Core.Path.{◌≡◌, refl, ◌∙◌, sym, ap}
use mathlib.Core.List.{List, [], ◌∷◌, ◌++◌, append_assoc, append-nil}
use Prim.Native.Nat.{ℕ, suc, ◌+◌, ◌-◌, ◌≤◌}
use native.Mathlib.Omega.{arith}
use native.Mathlib.Nat.{add-zero, add-suc, suc-add, zero-add}
use lib.ListN.{length, drop, set, length-append, length-drop}
use borrow.Rule.Slice.PartMut.{mid_of, put_mid, mid_len}
use Rattle.octets.specs.Bytes.{bytes}
use Rattle.octets.proofs.Bytes.{length-bytes}
use lib.Seq.{sets, sets-eq, drop-drop, drop-length, take_at, drop_at}

pub sets-append : (vs ws a : List ℕ) (at : ℕ) → sets (sets a at vs) (at + length vs) ws ≡ sets a at (vs ++ ws)
sets-append [] ws a at = rw add-zero
sets-append (v ∷ vs) ws a at =
    ap (λ i. sets (sets (set a at v) (suc at) vs) i ws) (add-suc at (length vs) ∙ sym (suc-add at (length vs)))
    ∙ sets-append vs ws (set a at v) (suc at)

-- a text at the front
pub in_front : (out text : List ℕ) (k : ℕ) → length text ≡ k → k ≤ length out → sets out 0 text ≡ text ++ drop k out
in_front out text k e h = sets-eq text out 0 (omega arith) ∙ ap (λ i. text ++ drop i out) (zero-add (length text) ∙ e)

-- buffer b has a text of at bytes in front, and is as a behind it
pub record Front (a b : List ℕ) (at : ℕ) (text : List ℕ) : Type 0 where
  pub stands : b ≡ text ++ drop at a
  pub long : length text ≡ at

pub nothing_put : (a : List ℕ) → Front a a 0 []
nothing_put a = record { stands = refl; long = refl }

pub text_first : (a back text : List ℕ) → back ≡ text → Front a (back ++ drop (length text) a) (length text) text
text_first a back text e = record { stands = rw e; long = refl }

-- where the text is as long as the buffer, it is the buffer
pub all_put : {a b : List ℕ} {at : ℕ} {text : List ℕ} → Front a b at text → length a ≡ at → b ≡ text
all_put {a} {b} {at} {text} f h = f.stands ∙ rw (← h, drop-length) (append-nil text)

-- the next part, of k bytes, was lent and came back: as a text, or as the bytes of a number
module _ {a b : List ℕ} {at : ℕ} {text : List ℕ} (f : Front a b at text) (back : List ℕ) (k : ℕ) (h : at + k ≤ length a) where
  pub text_put : (more : List ℕ) → length more ≡ k → back ≡ more → Front a (put_mid at (at + k - at) b back) (at + k) (text ++ more)
  text_put more l e =
      let d : at + k - at ≡ k = omega arith in
      record {
        stands = rw (d, e, f.stands, take_at text (drop at a) at f.long, drop_at text (drop at a) at f.long, drop-drop) (sym (append_assoc text more (drop (at + k) a)));
        long = simp length-append (omega (arith, l, f.long));
      }

  pub number_put : (x : ℕ) → back ≡ bytes (length (mid_of at (at + k - at) b)) x → Front a (put_mid at (at + k - at) b back) (at + k) (text ++ bytes k x)
  number_put x e =
      let d : at + k - at ≡ k = omega arith in
      let g : at + k ≤ length b = rw f.stands (simp (length-append, length-drop) (omega (arith, f.long))) in
      text_put (bytes k x) (length-bytes k x) (e ∙ ap (λ m. bytes m x) (mid_len at (at + k) b g ∙ d))
