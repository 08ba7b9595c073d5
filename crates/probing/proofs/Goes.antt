-- The end of the input where it cuts a case, and that the contracts of feeding settle all. Assumes nothing.
use mathlib.Core.Path.{◌≡◌, ◌∙◌, sym, ap}
use mathlib.Core.Bool.{true}
use mathlib.Core.List.{List}
use Prim.Native.Nat.{ℕ}
use Rattle.script.specs.Wrote.{Wrote}
use Rattle.script.proofs.Writes.{and_then}
use Rattle.probing.specs.declared.Probe.{Probe}
use Rattle.probing.specs.declared.Said.{Said}
use Rattle.probing.specs.Text.{fault_text, cut_words}
use Rattle.probing.specs.Feed.{fed_probe, is_cut, cut_text, closed_text, FedTo, ClosedTo}
use Rattle.probing.specs.Promise.{FeedingSettled}

module _ {p : Probe} {row row' out out' : List ℕ} {answer : Said} (f : FedTo p 10 row row' out out' answer) where
  pub closed_cut : {out'' : List ℕ} {len : ℕ} → is_cut answer.probe.reading ≡ true
      → Wrote out' out'' answer.len len (fault_text answer.probe.k cut_words) → ClosedTo p row row' out out'' len
  unfolding closed_text
  closed_cut n w =
      let e : cut_text (fed_probe p row 10) ≡ fault_text answer.probe.k cut_words = ap cut_text (sym f.goes) ∙ rw n in
      record { kept = f.kept; written = rw e (and_then f.written w) }

-- a text that is written settles the buffer and the next place
settled : {out a b : List ℕ} {at i j : ℕ} {text : List ℕ} → Wrote out a at i text → Wrote out b at j text → (i ≡ j) × (a ≡ b)
settled v w = (v.after ∙ sym w.after, v.stands ∙ sym w.stands)

pub feeding_is_settled : FeedingSettled
feeding_is_settled =
    record {
      fed = λ p b row row₁ row₂ out out₁ out₂ x y v w.
          let z = settled v.written w.written in
          let g = v.goes ∙ sym w.goes in (λ i. record { probe = g i; len = z.0 i }, (v.kept ∙ sym w.kept, z.1));
      closed = λ p row row₁ row₂ out out₁ out₂ x y v w. let z = settled v.written w.written in (z.0, (v.kept ∙ sym w.kept, z.1));
    }
