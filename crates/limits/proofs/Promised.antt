-- No turn of a file's run is refused, and its numbers are small. Assumes nothing.
use mathlib.Core.Path.{◌≡◌}
use mathlib.Core.Bool.{true, false}
use mathlib.Core.List.{List}
use Prim.Native.Nat.{ℕ, ◌*◌, ◌<◌, ◌≤◌}
use native.Mathlib.Omega.{arith}
use borrow.Author.Tests.{le-ltb, ne_eqb}
use lib.ListN.{length, get_or, take, length-take}
use lib.Seq.{get_or-take}
use Rattle.rules.specs.Refusal.{refusal_of}
use Rattle.rules.proofs.Facts.{either_way}
use Rattle.octets.specs.Bytes.{AllBytes}
use Rattle.method.specs.Record.{told}
use Rattle.reach.specs.Step.{count_limit, version_limit, bad_offer, would_begin}
use Rattle.bench.specs.declared.Bench.{Bench}
use Rattle.bench.specs.Record.{station_at}
use Rattle.bench.specs.Sound.{sound}
use Rattle.bench.specs.Turn.{turn_refusals}
use Rattle.bench.specs.Promise.{Turn, turn_by}
use Rattle.bench.proofs.Clear.{none_told}
use Rattle.runfile.specs.Reading.{read_of, table_of, turns_of}
use Rattle.runfile.proofs.Trailers.{bytes_part}
use Rattle.run.specs.Calls.{on_offer}
use Rattle.run.specs.Run.{given, run_of}
use Rattle.run.proofs.Files.{reads_well}
use Rattle.limits.specs.Answers.{run_after, NoneRefused}
use Rattle.limits.specs.Small.{SmallNumbers}
use Rattle.limits.proofs.Books.{few_listed}
use Rattle.limits.proofs.Runs.{Kept, counted, run_kept}
use Rattle.limits.proofs.Files.{x_small}

-- a good turn is refused neither for its station nor for its offer, and a run is too short for 12 and 13
answered : (w : Bench) (u : Turn) → sound w ≡ true → 1 ≤ u.station → u.station ≤ w.n → bad_offer u.kind u.a u.b ≡ false
    → (station_at w u.station).c < count_limit → w.v.first ≤ version_limit → (told (turn_by w u).answer).case ≡ 3 → ⊥
answered w u s low high offer c v =
    let p = (station_at w u.station).place in
    let none : refusal_of (turn_refusals w u.station u.kind u.a u.b) ≡ 0 =
    rw (s, ne_eqb u.station 0 (λ e. omega arith), le-ltb w.n u.station high, offer, ne_eqb (station_at w u.station).c count_limit (λ e. omega arith), le-ltb version_limit w.v.first v)
    (either_way (would_begin p u.kind) (λ e. rw e) (λ e. rw e)) in
    none_told w u none

module _ (file : List ℕ) (bytes : AllBytes file) (well : (read_of file).refused ≡ 0) where
  kept : (turns : List ℕ) → ((j : ℕ) → j < length turns → get_or turns j 0 ≤ (read_of file).n)
      → Kept (read_of file).n (run_of (read_of file).x (read_of file).n (table_of file) turns)
  kept turns h =
      let r = reads_well file well in
      run_kept (table_of file) r.good.calls (bytes_part file (read_of file).start (12 * (read_of file).q) bytes) (read_of file).n (read_of file).x turns r.some r.few
      (x_small file bytes) h

  part_kept : (k : ℕ) → Kept (read_of file).n (run_after file k)
  part_kept k =
      kept (take k (turns_of file))
      (λ j h.
      let l = length-take k (turns_of file) in
      rw (get_or-take k (turns_of file) j 0 (omega arith)) ((reads_well file well).good.turn j (omega arith)).1)

part_counted : (file : List ℕ) (k : ℕ) → (run_after file k).turns ≤ k
part_counted file k = omega (arith, counted (read_of file).x (read_of file).n (table_of file) (take k (turns_of file)), length-take k (turns_of file))

pub none_refused : NoneRefused
unfolding NoneRefused
none_refused file bytes well k h =
    let s = run_after file k in
    let i = get_or (turns_of file) k 0 in
    let f = part_kept file bytes well k in
    let r = reads_well file well in
    let g = r.good.turn k h in
    let few = r.good.few in
    let count = part_counted file k in
    let c = (f.within.station i).c in
    let v = f.within.version in
    answered s.bench (given (table_of file) s i) f.is_sound g.0 (omega (arith, g.1, f.same))
    (r.good.offers (on_offer (station_at s.bench i).place (get_or s.book.upcoming i 0))) (omega arith) (omega arith)

pub small_numbers : SmallNumbers
unfolding SmallNumbers
small_numbers file bytes well =
    let r = reads_well file well in
    let f = kept file bytes well (turns_of file) (λ j h. (r.good.turn j h).1) in
    let b = f.book in
    let count = counted (read_of file).x (read_of file).n (table_of file) (turns_of file) in
    let few = r.good.few in
    record {
      own = b.own;
      result = b.result;
      last = λ c. omega (arith, b.last c);
      point = λ c. omega (arith, b.points.latest c);
      listed = few_listed b.points;
      calls = λ i. omega (arith, b.points.calls i);
      turns = omega arith;
      idle = omega (arith, b.idle);
      begun = omega (arith, b.begun);
      ended = omega (arith, b.ended);
      version = omega (arith, f.within.version);
      value = f.within.value;
    }
