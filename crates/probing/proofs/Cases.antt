-- The parts of a case's text: its picture from what was drawn, and its lines from what was read. Assumes nothing.
use mathlib.Core.Path.{◌≡◌, refl, ◌∙◌, sym, ap}
use mathlib.Core.Bool.{Bool, true, false, true≢false, cond, not}
use mathlib.Core.List.{List, ◌++◌}
use Prim.Native.Nat.{ℕ, ◌≤◌}
use native.Mathlib.Omega.{arith}
use borrow.Author.Tests.{ne_eqb, eqb-false, ltb-false}
use Rattle.std.specs.Prelude.{Result, Ok, Err}
use lib.Dec.{eqb, ltb}
use lib.ListN.{length, get_or, take, drop, length-append}
use lib.Seq.{take-append-le, take_all}
use Rattle.rules.specs.Refusal.{refusal_of}
use Rattle.rules.proofs.Facts.{either_way}
use Rattle.bench.specs.declared.Bench.{Bench}
use Rattle.bench.specs.declared.Turned.{Turned}
use Rattle.bench.specs.Sound.{sound}
use Rattle.bench.specs.Turn.{turn_of}
use Rattle.rules.specs.declared.Reason.{Reason}
use Rattle.rules.specs.Reason.{number_of, k_of, numbers}
use Rattle.rules.proofs.Reasons.{above}
use Rattle.method.specs.declared.Call.{Call}
use Rattle.picture.specs.Picture.{registers, in_bytes, picture_size, picture_refusals, drawing_of, drawn_on, DrawnTo}
use Rattle.picture.proofs.Drawn.{size-drawn}
use Rattle.probing.specs.Numbers.{call_from, bench_of}
use Rattle.probing.specs.Text.{sound_text, answer_text, refused_text, bench_text, room, drawn_text, picture_text, turn_in, case_text}

-- neither 9 nor 14
no_14 : (s l : Bool) → eqb (cond (not s) 9 (cond l 14 0)) 0 ≡ true → l ≡ false
no_14 true true e = absurd (true≢false (sym e))
no_14 true false e = refl
no_14 false l e = absurd (true≢false (sym e))

abbrev number : Bench → ℕ → ℕ
number w k = refusal_of (picture_refusals w k)

drawing_good : (w : Bench) (k : ℕ) → eqb (number w k) 0 ≡ true → drawing_of w k ≡ record { refused = 0; k = 0; len = picture_size w }
unfolding drawing_of
drawing_good w k t = rw t

drawing_refused : (w : Bench) (k : ℕ) → eqb (number w k) 0 ≡ false → (drawing_of w k).refused ≡ number w k
unfolding drawing_of
drawing_refused w k f = rw f

drawn_good : (w : Bench) (page : List ℕ) → eqb (number w (length page)) 0 ≡ true → drawn_on w page ≡ in_bytes (registers w) ++ drop (picture_size w) page
unfolding drawn_on
drawn_good w page t = rw t

-- a picture that is drawn stands in front of its page, and is what is told of its bench
pub record Drew (w : Bench) (len : ℕ) (page : List ℕ) : Type 0 where
  pub fits : len ≤ length page
  pub told : picture_text w ≡ drawn_text (take len page)

front : (xs ys : List ℕ) (k : ℕ) → length xs ≡ k → take k (xs ++ ys) ≡ xs
front xs ys k e = take-append-le k xs ys (omega arith) ∙ take_all k xs (omega arith)

module _ (w : Bench) (page page' : List ℕ) (r : Result ℕ Reason) (long : length page ≡ room) (d : DrawnTo w page (numbers r) page') where
  told : drawing_of w room ≡ numbers r
  told = ap (drawing_of w) (sym long) ∙ sym d.answered

  pub drew : (len : ℕ) → r ≡ Ok len → Drew w len page'
  unfolding picture_text
  drew len h =
      let e : numbers r ≡ record { refused = 0; k = 0; len = len } = ap numbers h in
      let z : (drawing_of w (length page)).refused ≡ 0 = ap (λ x. x.refused) (sym d.answered ∙ e) in
      either_way (eqb (number w (length page)) 0)
      (λ t.
      let g = ltb-false (length page) (picture_size w) (no_14 (sound w) (ltb (length page) (picture_size w)) t) in
      let q : len ≡ picture_size w = ap (λ x. x.len) (sym e ∙ d.answered ∙ drawing_good w (length page) t) in
      let p : page' ≡ in_bytes (registers w) ++ drop (picture_size w) page = d.left ∙ drawn_good w page t in
      let s = size-drawn w in
      let n = length-append (in_bytes (registers w)) (drop (picture_size w) page) in
      let f = front (in_bytes (registers w)) (drop (picture_size w) page) (picture_size w) s in
      rw (q, p) (record { fits = omega arith; told = rw (told ∙ e, f) }))
      (λ t. absurd (eqb-false (number w (length page)) 0 t (sym (drawing_refused w (length page) t) ∙ z)))

  pub refused : (x : Reason) → r ≡ Err x → picture_text w ≡ refused_text (number_of x)
  unfolding picture_text
  refused x h =
      let e : drawing_of w room ≡ record { refused = number_of x; k = k_of x; len = 0 } = told ∙ ap numbers h in
      rw (e, ne_eqb (number_of x) 0 (above x))

-- the four lines, from what was read of the row
pub case_written : (xs : List ℕ) (w : Bench) (s : ℕ) (o : Call) (x : Turned) (good : Bool) → w ≡ bench_of xs → s ≡ get_or xs 534 0 → o ≡ call_from xs 535
    → x ≡ turn_of w s o.kind o.a o.b → good ≡ sound w
    → sound_text good ++ answer_text x.answer ++ bench_text x.bench ++ picture_text x.bench ≡ case_text xs
unfolding case_text
case_written xs w s o x good e f g t z =
    let q : x ≡ turn_in xs = t ∙ (λ i. turn_of (e i) (f i) (g i).kind (g i).a (g i).b) in
    let h : good ≡ sound (bench_of xs) = z ∙ ap sound e in
    λ i. sound_text (h i) ++ answer_text (q i).answer ++ bench_text (q i).bench ++ picture_text (q i).bench
