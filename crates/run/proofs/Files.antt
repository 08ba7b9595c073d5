-- What a file that reads well gives a run: stations of the bench, good offers, and no more of them than the rows hold. Assumes nothing.
use mathlib.Core.Path.{◌≡◌, refl}
use mathlib.Core.Bool.{Bool, true, false, not, ◌&&◌, ◌||◌}
use mathlib.Core.List.{List}
use Prim.Native.Nat.{ℕ, ◌*◌, ◌-◌, ◌<◌, ◌≤◌}
use native.Mathlib.Omega.{arith}
use borrow.Author.Tests.{ltb-false, eqb-false, le-ltb, ne_eqb}
use lib.Dec.{eqb, ltb}
use lib.ListN.{length, get_or}
use Rattle.rules.proofs.Facts.{either_way, or_none}
use Rattle.rules.proofs.Rows.{Clear}
use Rattle.reach.specs.Step.{bad_offer}
use Rattle.runfile.specs.declared.CallRecord.{CallRecord}
use Rattle.runfile.specs.Layout.{part, field, zero_byte, records, no_call, call_record, call_bytes, call_of}
use Rattle.rules.specs.Limits.{bad_station}
use Rattle.runfile.specs.Reading.{bad_call, bad_call_at, bad_turn_at, first_call, first_turn, part_rows, trailer_at, turn_count, agrees, read_of, table_of, turns_of}
use Rattle.runfile.proofs.Answers.{by_answer}
use Rattle.runfile.proofs.First.{searched}
use Rattle.runfile.proofs.Limits.{within}
use Rattle.runfile.proofs.Trailers.{length_part}
use Rattle.run.specs.Calls.{StationsWithin}
use Rattle.run.specs.Drive.{Good}

-- a good station is one of 1 to n
good_station : (n i : ℕ) → bad_station n i ≡ false → (1 ≤ i) × (i ≤ n)
good_station n i e =
    let o = or_none (eqb i 0) (ltb n i) e in
    let z = eqb-false i 0 o.0 in
    (omega arith, ltb-false n i o.1)

-- kinds up to 2 are good offers, a read where its values are
offer_good : (kind : ℕ) (x : Bool) → ltb 2 kind ≡ false → (eqb kind 0 && x) ≡ false → (ltb 3 kind || ((eqb kind 0 || eqb kind 3) && x)) ≡ false
offer_good kind x l e =
    let h : kind ≤ 2 = ltb-false 2 kind l in
    rw (le-ltb 3 kind (omega arith), ne_eqb kind 3 (λ q. omega arith)) (either_way (eqb kind 0) (λ t. rw t (rw t at e)) (λ u. rw u refl))

-- a good call is of a good station, and a good offer
good_call : (n : ℕ) (s : List ℕ) → bad_call n s ≡ false → ((call_record s).station ≤ n) × (bad_offer (call_record s).kind (call_record s).a (call_record s).b ≡ false)
unfolding bad_call
good_call n s e =
    let o = or_none (bad_station n (field s 0 2)) _ e in
    let k = or_none (ltb 2 (field s 2 1)) _ o.1 in
    let z = or_none (not (eqb (zero_byte s) 0)) _ k.1 in
    ((good_station n (field s 0 2) o.0).1, offer_good (field s 2 1) _ k.0 z.1)

-- what holds of no call and of each call of the table holds of whatever is asked for
by_call : (table : List ℕ) (P : CallRecord → Type 0) → P no_call → ((i : ℕ) → i < records table → P (call_record (call_bytes table i))) → (c : ℕ) → P (call_of table c)
unfolding call_of
by_call table P none some c =
    either_way (eqb c 0 || ltb (records table) c)
    (λ t. rw t none)
    (λ u.
    let o = or_none (eqb c 0) (ltb (records table) c) u in
    let z = eqb-false c 0 o.0 in
    rw u (some (c - 1) (omega (arith, ltb-false (records table) c o.1))))

no_call_lem : (table : List ℕ) (c : ℕ) → eqb c 0 ≡ true → call_of table c ≡ no_call
unfolding call_of
no_call_lem table c t = rw t refl

pub record Runs (n : ℕ) (table turns : List ℕ) : Type 0 where
  pub some : 1 ≤ n
  pub few : n ≤ 32
  pub good : Good n table turns
  pub stations : StationsWithin table

-- where no call and no turn is bad
runs : (n : ℕ) (table turns : List ℕ) → 1 ≤ n → n ≤ 32 → records table ≤ 1024 → length turns ≤ 40960 → Clear (part_rows n table turns) → Runs n table turns
unfolding first_call first_turn
runs n table turns some few calls short clear =
    let nc = (searched (bad_call_at n table) (records table)).none.0 (omega (arith, ltb-false 0 (first_call n table) clear.0)) in
    let nt = (searched (bad_turn_at n turns) (length turns)).none.0 (omega (arith, ltb-false 0 (first_turn n turns) clear.1.0)) in
    record {
      some = some;
      few = few;
      good =
          record {
            turn = λ k h. good_station n (get_or turns k 0) (nt k h);
            few = short;
            offers = λ c.
                either_way (eqb c 0) (λ t. rw (t, no_call_lem table c t) refl)
                (λ u. rw u (by_call table (λ r. bad_offer r.kind r.a r.b ≡ false) refl (λ i h. (good_call n (call_bytes table i) (nc i h)).1) c));
            calls = calls;
          };
      stations = by_call table (λ r. r.station < 33) (omega arith) (λ i h. omega (arith, (good_call n (call_bytes table i) (nc i h)).0));
    }

pub reads_well : (f : List ℕ) → (read_of f).refused ≡ 0 → Runs (read_of f).n (table_of f) (turns_of f)
reads_well f =
    by_answer f (λ r. r.refused ≡ 0 → Runs r.n (part f r.start (12 * r.q)) (part f r.middle r.t))
    (λ r k h e. absurd (h e))
    (λ g e.
    let z = trailer_at f in
    let l = within z.n z.q (turn_count z) (agrees (length f) z) g.numbers in
    let some = eqb-false z.n 0 (or_none (eqb z.n 0) (ltb 32 z.n) g.numbers.0).0 in
    let a = g.agree in
    let q = length_part f 0 (12 * z.q) (omega arith) in
    let t = length_part f (12 * z.q) z.second (omega arith) in
    runs z.n (part f 0 (12 * z.q)) (part f (12 * z.q) z.second) (omega (arith, some)) l.few (omega (arith, q, l.calls)) (omega (arith, t, l.turns)) g.contents)
