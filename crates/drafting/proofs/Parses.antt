-- What parsing answers and leaves in the buffer, from what the writer does with the run that the text tells. Assumes nothing.
use mathlib.Core.Path.{◌≡◌, refl, ◌∙◌, sym, ap, subst}
use mathlib.Core.List.{List}
use Prim.Native.Nat.{ℕ, ◌*◌, ◌≤◌}
use native.Mathlib.Omega.{arith}
use borrow.Author.Tests.{ltb-true, ltb-false, eq-eqb, ne_eqb, eqb-false}
use lib.Dec.{eqb, ltb}
use lib.ListN.{length, take, drop}
use lib.Seq.{take_at}
use Rattle.rules.proofs.Facts.{either_way}
use Rattle.script.specs.Wrote.{Wrote}
use Rattle.script.proofs.Writes.{same_length, size, in_front}
use Rattle.std.specs.Prelude.{Result, MatchResult, Ok, Err}
use Rattle.rules.specs.Limits.{call_limit, turn_limit}
use Rattle.rules.specs.declared.Reason.{Reason}
use Rattle.rules.specs.Reason.{Numbers, numbers, number_of}
use Rattle.rules.proofs.Reasons.{above}
use Rattle.runfile.specs.Writing.{Written}
use Rattle.runfile.proofs.Writes.{clear_writes}
use Rattle.drafting.specs.declared.Draft.{Draft}
use Rattle.script.specs.declared.Page.{Page}
use Rattle.drafting.specs.declared.Expected.TheVariants.{Room}
use Rattle.drafting.specs.declared.Complaint.{Complaint}
use Rattle.drafting.specs.Draft.{Drafted}
use Rattle.drafting.specs.Expected.{expected_number}
use Rattle.drafting.specs.Gather.{Told, Complains}
use Rattle.drafting.specs.Scan.{no_scan, run}
use Rattle.drafting.specs.Parse.{last_draft, lacking, table_in, turns_in, file_in, length_in, parsed, parsed_numbers, parse_of, parsed_on, ParsedTo}
use Rattle.drafting.proofs.Steps.{above as named}
use Rattle.drafting.proofs.Writable.{written, no_room}
use Rattle.drafting.proofs.Sane.{table_fits, turns_fit, tells_good}

-- a text that cannot be read
pub refused : (text out : List ℕ) (line expected : ℕ) → line ≡ (run no_scan text).line → expected ≡ lacking (last_draft text) → (expected ≡ 0 → ⊥)
    → ParsedTo text out (parsed line expected 0) out
unfolding parse_of parsed_on
refused text out line expected e f h =
    let b = ne_eqb expected 0 h in
    record { answered = simp (sym f, sym e, b); left = simp (sym f, b, b) }

pub complained : (text out : List ℕ) (c : Complaint) → Complains text c → ParsedTo text out (parsed c.line (expected_number c.expected) 0) out
complained text out c h = refused text out c.line (expected_number c.expected) (sym h.line) (sym h.lacks) (named c.expected)

-- what the front of a row holds
pub front : {a b : List ℕ} {j : ℕ} (xs : List ℕ) → Wrote a b 0 j xs → length xs ≤ length a → take j b ≡ xs
front {a} {b} {j} xs w h =
    let l = w.lent in
    rw (size w (omega arith), in_front w h) (take_at xs (drop (length xs) a) (length xs) refl)

-- and that it ends within the row
pub front_ends : {a b : List ℕ} {j : ℕ} (xs : List ℕ) → Wrote a b 0 j xs → length xs ≤ length a → j ≤ length b
front_ends xs w h = let l = w.lent in omega (arith, size w (omega arith), same_length w)

-- a text that can
module _ (text out : List ℕ) (h : lacking (last_draft text) ≡ 0) (answer : Numbers) (after : List ℕ)
    (w : Written (last_draft text).x (last_draft text).n (table_in text) (turns_in text) out answer after) where
  abbrev d : Drafted
  d = last_draft text

  pub taken : ParsedTo text out (parsed 0 answer.refused answer.len) after
  unfolding parse_of parsed_on file_in
  taken =
      let g = tells_good text h in
      let e = eq-eqb (lacking d) 0 h in
      let room = length out in
      either_way (ltb room (length_in text))
      (λ t.
      let n = no_room d.x d.n (table_in text) (turns_in text) g out answer after (ltb-true room (length_in text) t) w in
      record { answered = simp (n.0, e, t); left = simp (e, t) n.1 })
      (λ f.
      let l = ltb-false room (length_in text) f in
      let n = clear_writes d.x d.n (table_in text) (turns_in text) out answer after (written d.x d.n (table_in text) (turns_in text) g room l) w in
      record { answered = simp (n.0, e, f); left = simp (e, f) n.1 })

-- where the writer refuses, the buffer is too short
module _ (text out : List ℕ) (h : lacking (last_draft text) ≡ 0) (r : Result ℕ Reason) (after : List ℕ)
    (w : Written (last_draft text).x (last_draft text).n (table_in text) (turns_in text) out (numbers r) after) where
  pub wrote_all : (len : ℕ) → r ≡ Ok len → ParsedTo text out (parsed 0 0 len) after
  wrote_all len e = subst (λ r. ParsedTo text out (parsed 0 (numbers r).refused (numbers r).len) after) e (taken text out h (numbers r) after w)

  pub no_place : (e : Reason) → r ≡ Err e → ParsedTo text out (parsed 0 14 0) after
  unfolding parse_of parsed_on
  no_place e f =
      let p : ParsedTo text out (parsed 0 (number_of e) 0) after =
      subst (λ r. ParsedTo text out (parsed 0 (numbers r).refused (numbers r).len) after) f (taken text out h (numbers r) after w) in
      let b = eq-eqb (lacking (last_draft text)) 0 h in
      either_way (ltb (length out) (length_in text))
      (λ t. record { answered = rw (b, t); left = p.left })
      (λ g. absurd (above e (ap (λ a. a.expected) p.answered ∙ rw (b, g))))

-- the answer that is made of the writer's
abbrev no_room_told : Complaint
no_room_told = record { line = 0; expected = Room }

pub judged : (text out : List ℕ) → lacking (last_draft text) ≡ 0 → (r : Result ℕ Reason) (after : List ℕ)
    → Written (last_draft text).x (last_draft text).n (table_in text) (turns_in text) out (numbers r) after
    → (s : Result ℕ Complaint) → MatchResult r (λ len. s ≡ Ok len) (λ e. s ≡ Err no_room_told) → ParsedTo text out (parsed_numbers s) after
judged text out h (Ok len) after w s e = rw e (wrote_all text out h (Ok len) after w len refl)
judged text out h (Err x) after w s e = rw e (no_place text out h (Err x) after w x refl)

-- what the pages hold of a text
module _ {text : List ℕ} {calls calls' moves moves' : Page} {d : Draft} (t : Told text calls calls' moves moves' d) (n : calls.at ≡ 0) (m : moves.at ≡ 0)
    (k : 12 * call_limit ≤ length calls.out.now) (l : turn_limit ≤ length moves.out.now) where
  called : Wrote calls.out.now calls'.out.now 0 calls'.at (table_in text)
  called = subst (λ i. Wrote calls.out.now calls'.out.now i calls'.at (table_in text)) n t.rows.called.wrote

  turned : Wrote moves.out.now moves'.out.now 0 moves'.at (turns_in text)
  turned = subst (λ i. Wrote moves.out.now moves'.out.now i moves'.at (turns_in text)) m t.rows.turned.wrote

  table_fit : length (table_in text) ≤ length calls.out.now
  table_fit = omega (arith, table_fits text, k)

  turn_fit : length (turns_in text) ≤ length moves.out.now
  turn_fit = omega (arith, turns_fit text, l)

  pub calls_end : calls'.at ≤ length calls'.out.now
  calls_end = front_ends (table_in text) called table_fit

  pub moves_end : moves'.at ≤ length moves'.out.now
  moves_end = front_ends (turns_in text) turned turn_fit

  -- the writer's contract, of what the text tells
  pub written_of : {T U out after : List ℕ} {a : Numbers} → T ≡ take calls'.at calls'.out.now → U ≡ take moves'.at moves'.out.now
      → Written d.x d.n T U out a after → Written (last_draft text).x (last_draft text).n (table_in text) (turns_in text) out a after
  written_of e f w =
      let x : d.x ≡ (last_draft text).x = sym (ap (λ d. d.x) t.last) in
      let y : d.n ≡ (last_draft text).n = sym (ap (λ d. d.n) t.last) in
      rw (x, y, e ∙ front (table_in text) called table_fit, f ∙ front (turns_in text) turned turn_fit) at w

-- a file that was written ends within the buffer
pub ends_within : (text out after : List ℕ) (len : ℕ) → ParsedTo text out (parsed 0 0 len) after → len ≤ length out
unfolding parse_of
ends_within text out after len p =
    let k = lacking (last_draft text) in
    let e = ap (λ a. a.expected) p.answered in
    let l = ap (λ a. a.len) p.answered in
    either_way (eqb k 0)
    (λ t.
    either_way (ltb (length out) (length_in text)) (λ u. let z = rw (t, u) at e in absurd (omega arith))
    (λ u. let z = rw (t, u) at l in let g = ltb-false (length out) (length_in text) u in omega arith))
    (λ f. let z = rw f at e in absurd (eqb-false k 0 f (sym z)))
