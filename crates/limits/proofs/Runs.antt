-- What a run keeps, turn by turn: soundness, and the numbers of its bench and its book. Assumes nothing.
use mathlib.Core.Path.{◌≡◌, refl, ◌∙◌}
use mathlib.Core.Bool.{true}
use mathlib.Core.List.{List, [], ◌∷◌}
use Prim.Native.Nat.{ℕ, suc, ◌+◌, ◌<◌, ◌≤◌}
use native.Mathlib.Omega.{arith}
use lib.ListN.{length, get_or}
use Rattle.octets.specs.Bytes.{AllBytes}
use Rattle.method.specs.Record.{at_rest}
use Rattle.bench.specs.Record.{blank, station_at}
use Rattle.bench.specs.Sound.{sound}
use Rattle.bench.specs.Turn.{fresh_of}
use Rattle.bench.specs.Promise.{turn_by}
use Rattle.bench.proofs.Sounds.{facts, ready_at}
use Rattle.bench.proofs.Promised.{turn_sound, kept_sound}
use Rattle.runfile.specs.Layout.{records}
use Rattle.run.specs.Calls.{on_offer, call_for}
use Rattle.run.specs.Run.{Run, given, empty_book, step_run, run_from, run_of}
use Rattle.limits.specs.Within.{value_limit, Within}
use Rattle.limits.proofs.Elements.{chosen}
use Rattle.limits.proofs.Turns.{turn_gives}
use Rattle.limits.proofs.Books.{BookWithin, noting}
use Rattle.run.proofs.Start.{fresh_bench}
use Rattle.limits.proofs.Start.{blank_within, empty_within}
use Rattle.limits.proofs.Files.{call_small}

-- what a run of n stations keeps
pub record Kept (n : ℕ) (s : Run) : Type 0 where
  pub is_sound : sound s.bench ≡ true
  pub same : s.bench.n ≡ n
  pub within : Within s.turns s.bench
  pub book : BookWithin s.turns s.turns s.book

abbrev start : ℕ → ℕ → List ℕ → Run
start x n table = record { bench = (fresh_of x n).bench; turns = 0; book = empty_book table }

-- the turns are counted
counted_on : (table turns : List ℕ) (s : Run) → (run_from table s turns).turns ≡ s.turns + length turns
unfolding run_from
counted_on table [] s = omega arith
counted_on table (i ∷ is) s = omega (arith, counted_on table is (step_run table s i))

pub counted : (x n : ℕ) (table turns : List ℕ) → (run_of x n table turns).turns ≡ length turns
counted x n table turns = omega (arith, counted_on table turns (start x n table))

module _ (table : List ℕ) (few : records table ≤ 1024) where
  start_kept : (x n : ℕ) → 1 ≤ n → n ≤ 32 → x < value_limit → Kept n (start x n table)
  start_kept x n low high h =
      let e = fresh_bench x n low high in
      let s : sound (blank x n) ≡ true = rw e at (kept_sound.fresh x n (rw e)) in
      rw e (record { is_sound = s; same = refl; within = blank_within x n h; book = empty_within table few })

  -- a turn keeps it
  module _ (bytes : AllBytes table) (n : ℕ) where
    step_kept : (s : Run) (i : ℕ) → i ≤ n → Kept n s → Kept n (step_run table s i)
    step_kept s i high f =
        let w = s.bench in
        let p = (station_at w i).place in
        let d = get_or s.book.upcoming i 0 in
        let u = given table s i in
        let x = turn_by w u in
        let o = call_small table bytes (on_offer p d) in
        let g = turn_gives s.turns w u f.is_sound o.0 o.1 f.within in
        let y : sound x.bench ≡ true = turn_sound w u f.is_sound in
        let h : i < 33 = omega (arith, f.same, (facts w f.is_sound).head.0.1.0) in
        record {
          is_sound = y;
          same = g.same ∙ f.same;
          within = g.within;
          book =
              noting table few w s.turns i (call_for p d (get_or s.book.latest i 0)) (station_at x.bench i).own
              (chosen (λ c. c < 1025) (at_rest p) (f.book.upcoming i) (f.book.latest i))
              (omega (arith, (ready_at x.bench i y h).0)) s.book f.book x.answer g.result g.own;
        }

    all_kept_lem : (turns : List ℕ) (s : Run) → ((j : ℕ) → j < length turns → get_or turns j 0 ≤ n) → Kept n s → Kept n (run_from table s turns)
    unfolding run_from
    all_kept_lem [] s h f = f
    all_kept_lem (i ∷ is) s h f = all_kept_lem is (step_run table s i) (λ j g. h (suc j) (omega arith)) (step_kept s i (h 0 (omega arith)) f)

    -- from its start
    pub run_kept : (x : ℕ) (turns : List ℕ) → 1 ≤ n → n ≤ 32 → x < value_limit → ((j : ℕ) → j < length turns → get_or turns j 0 ≤ n) → Kept n (run_of x n table turns)
    run_kept x turns low high small h = all_kept_lem turns (start x n table) h (start_kept x n low high small)
