-- The two rows that a text fills, a byte of the text at a time; past a refusal nothing changes. Assumes nothing.
use mathlib.Core.Path.{◌≡◌, refl, ◌∙◌, sym, ap}
use mathlib.Core.Bool.{false}
use mathlib.Core.List.{List, [], ◌∷◌}
use Prim.Native.Nat.{ℕ, ◌+◌, ◌<◌}
use borrow.Author.Tests.{ne_eqb}
use lib.Dec.{eqb}
use lib.ListN.{length, get_or, take, drop}
use Rattle.std.proofs.lemmas.List.{take-append-drop}
use Rattle.script.proofs.Pages.{then}
use Rattle.std.specs.Prelude.{Result, MatchResult, Ok, Err}
use Rattle.drafting.specs.declared.Expected.{Expected}
use Rattle.drafting.specs.declared.Complaint.{Complaint}
use Rattle.drafting.specs.declared.Draft.{Draft}
use Rattle.script.specs.declared.Page.{Page}
use Rattle.drafting.specs.declared.Scan.{Scan}
use Rattle.drafting.specs.Draft.{call_made, turn_made}
use Rattle.drafting.specs.Scan.{Scanned, no_scan, empty, word_ended, line_ended, step, run}
use Rattle.drafting.specs.Held.{drafted, scanned, Begun, RefusedAt}
use Rattle.drafting.specs.Gather.{Filled, Gathered, Told, Complains}
use Rattle.drafting.specs.Expected.{expected_number}
use Rattle.drafting.specs.Parse.{last_draft, lacking, table_in, turns_in}
use Rattle.drafting.proofs.Scans.{run_both, run_more, given_more}
use Rattle.drafting.proofs.Steps.{above}

pub one_more : {calls calls' calls'' moves moves' moves'' : Page} (text : List ℕ) (i : ℕ) {s s' : Scan} → i < length text
    → Gathered text i calls calls' moves moves' s (take i text) → step (scanned text i s) (get_or text i 0) ≡ scanned text (i + 1) s' → Begun (i + 1) s'.within
    → Filled calls' calls'' (call_made (drafted s.draft) (drafted s'.draft)) moves' moves'' (turn_made (drafted s.draft) (drafted s'.draft))
    → Gathered text (i + 1) calls calls'' moves moves'' s' (take (i + 1) text)
one_more text i {s} {s'} h g e b f =
    let t = run no_scan (take i text) in
    let x = get_or text i 0 in
    let n : step t x ≡ scanned text (i + 1) s' = ap (λ t. step t x) g.reads ∙ e in
    record {
      reads = run_more no_scan text i h ∙ n;
      begun = b;
      rows = record {
        called = rw (given_more no_scan text i h call_made, n, g.reads) (then g.rows.called f.called);
        turned = rw (given_more no_scan text i h turn_made, n, g.reads) (then g.rows.turned f.turned);
      };
    }

-- past a refusal nothing changes
past : (s : Scanned) (text : List ℕ) → (s.draft.expected ≡ 0 → ⊥) → run s text ≡ s
unfolding run step
past s [] h = refl
past s (b ∷ bs) h = rw (ne_eqb s.draft.expected 0 h) (past s bs h)

-- a result that has the line beside what was expected
pub with_line : {A : Type 0} (P : A → Type 0) (Q : Expected → Type 0) (line : ℕ) (r : Result A Expected) (s : Result A Complaint)
    → MatchResult r (λ n. s ≡ Ok n) (λ x. s ≡ Err (record { line = line; expected = x })) → MatchResult r P Q
    → MatchResult s P (λ c. (line ≡ c.line) × Q c.expected)
with_line P Q line (Ok n) s e k = rw e k
with_line P Q line (Err x) s e k = rw e (refl, k)

pub refused_on : {calls calls' moves moves' : Page} {line : ℕ} (c : Complaint) (text : List ℕ) (i : ℕ) {s : Scan} → i < length text
    → Gathered text i calls calls' moves moves' s (take i text) → (line ≡ c.line) × RefusedAt (step (scanned text i s) (get_or text i 0)) line c.expected
    → RefusedAt (run no_scan text) c.line c.expected
refused_on c text i {s} h g r =
    let t = step (scanned text i s) (get_or text i 0) in
    let n : run no_scan (take (i + 1) text) ≡ t = run_more no_scan text i h ∙ ap (λ t. step t (get_or text i 0)) g.reads in
    let e : run no_scan text ≡ t =
    ap (run no_scan) (sym (take-append-drop (i + 1) text)) ∙ run_both no_scan (take (i + 1) text) (drop (i + 1) text)
    ∙ ap (λ t. run t (drop (i + 1) text)) n ∙ past t (drop (i + 1) text) (λ z. above c.expected (sym r.1.1.1 ∙ z)) in
    rw (e, ← r.0) r.1

-- the end of a text at which something was refused
pub refused_last : (text : List ℕ) (c : Complaint) → RefusedAt (run no_scan text) c.line c.expected → Complains text c
unfolding line_ended word_ended empty
refused_last text c r =
    let t = run no_scan text in
    let z : eqb t.draft.expected 0 ≡ false = ne_eqb t.draft.expected 0 (λ z. above c.expected (sym r.1.1 ∙ z)) in
    record { line = r.1.0; lacks = rw (r.0, z, z) r.1.1 }

-- and at which nothing was
module _ {calls calls' moves moves' : Page} (text : List ℕ) (s : Scan) (g : Gathered text (length text) calls calls' moves moves' s text) where
  ends : last_draft text ≡ line_ended (scanned text (length text) s)
  ends = ap line_ended g.reads

  pub told : {calls'' moves'' : Page} (d : Draft) → (line_ended (scanned text (length text) s) ≡ drafted d) × (lacking (drafted d) ≡ 0)
      → Filled calls' calls'' (call_made (drafted s.draft) (drafted d)) moves' moves'' (turn_made (drafted s.draft) (drafted d))
      → Told text calls calls'' moves moves'' d
  unfolding table_in turns_in
  told d e f =
      let n = ends ∙ e.0 in
      record {
        last = n;
        whole = rw n e.1;
        rows = record {
          called = rw (n, g.reads) (then g.rows.called f.called);
          turned = rw (n, g.reads) (then g.rows.turned f.turned);
        };
      }

  pub lacks : (c : Complaint) → s.line ≡ c.line → lacking (line_ended (scanned text (length text) s)) ≡ expected_number c.expected → Complains text c
  lacks c e f = record { line = ap (λ t. t.line) g.reads ∙ e; lacks = ap lacking ends ∙ f }
