-- Demand 3 for files: along the run of a file that reads well, book and journal stay together, the log is pinned, and the calls are the table's. Assumes nothing.
use mathlib.Core.Path.{◌≡◌, refl, ◌∙◌, sym, ap, subst⁻¹}
use mathlib.Core.Logic.{⊎_elim}
use mathlib.Core.Bool.{Bool, true, false, cond, ◌&&◌, false≢true}
use mathlib.Core.List.{List, [], ◌∷◌}
use Prim.Native.Nat.{ℕ, suc, ◌+◌, ◌≤◌, ◌<◌}
use native.Mathlib.Omega.{arith}
use borrow.Author.Tests.{eq-eqb, ne_eqb}
use lib.ListN.{length, get_or, set}
use Rattle.rules.proofs.Facts.{and_left, and_right}
use Rattle.method.specs.declared.Answer.{Answer}
use Rattle.method.specs.Record.{at_rest, call, told}
use Rattle.method.specs.Operation.{operates}
use Rattle.bench.specs.declared.Bench.{Bench}
use Rattle.bench.specs.Record.{blank, station_at}
use Rattle.bench.specs.Turn.{fresh_of}
use Rattle.bench.specs.Promise.{Turn, turn_by, after}
use Rattle.bench.proofs.Own.{counted}
use Rattle.bench.proofs.Sounds.{facts}
use Rattle.runfile.specs.Layout.{records, call_of}
use Rattle.runfile.specs.Reading.{read_of, table_of, turns_of}
use Rattle.run.specs.Calls.{call_after, offer, offering, on_offer, call_for}
use Rattle.run.specs.Run.{Run, empty_book, step_run, run_from}
use Rattle.run.specs.Drive.{run_of_file}
use Rattle.run.proofs.Steps.{mine_after, acting}
use Rattle.run.proofs.Files.{reads_well}
use Rattle.run.proofs.Start.{fresh_bench, how_many, first_call_lem}
use Rattle.order.specs.Journal.{Journal, log_in, no_calls, journal_step, journal_run, journal_of_file}
use Rattle.order.specs.Steps.{Step, effects}
use Rattle.order.specs.Demand.{Demand3}
use Rattle.order.specs.Files.{steps_run, steps_of_file, EveryFile}
use Rattle.order.proofs.Bridge.{everywhere}
use Rattle.order.proofs.Same.{opens}
use Rattle.order.proofs.Turns.{Held, counts, own_turn, same_size, turn_held, turn_had, fresh_held}
use Rattle.order.proofs.Pins.{Pins, no_pins}
use Rattle.order.proofs.Runs.{Ahead, all_ahead, next_ahead, next_pins, ran, ran_pinned, ran_demand}
use Rattle.order.proofs.Books.{Matches, noted_matches, noted_upcoming}
use Rattle.order.proofs.Plans.{Planned, not_begun, planned, recast}

pub record Filed (x n : ℕ) (table : List ℕ) (steps : List Step) (s : Run) (g : Journal) : Type 0 where
  pub held : Held x s.turns s.bench g
  pub pins : Pins steps s.turns g
  pub size : s.bench.n ≡ n
  pub matches : Matches s.book g
  pub plan : Planned table s.book.upcoming g.station g.call g.first

-- an operation of a station at rest is the first of the call on offer
offers_it : (table : List ℕ) (rests : Bool) (e : ℕ) → rests ≡ true → 1 ≤ e
    → call (offer table (cond rests e 0)).kind (offer table (cond rests e 0)).a (offer table (cond rests e 0)).b
    ≡ call (call_of table e).kind (call_of table e).a (call_of table e).b
offers_it table true e r some = rw (ne_eqb e 0 (λ q. omega arith))
offers_it table false e r some = absurd (false≢true r)

same_next : (f : ℕ → List ℕ) (acts rests : Bool) (e l : ℕ) (up : List ℕ) → cond (acts && rests) (f (cond rests e l)) up ≡ cond (acts && rests) (f e) up
same_next f true true e l up = refl
same_next f false true e l up = refl
same_next f true false e l up = refl
same_next f false false e l up = refl

module _ {x n : ℕ} {table : List ℕ} {steps : List Step} {s : Run} {g : Journal} (h : Filed x n table steps s g) (calls : records table ≤ 1024) (i : ℕ) (low : 1 ≤ i) (high : i ≤ n) where
  abbrev w : Bench
  w = s.bench

  abbrev e : ℕ
  e = get_or s.book.upcoming i 0

  abbrev rests : Bool
  rests = at_rest (station_at w i).place

  abbrev u : Turn
  u = offering table i (on_offer (station_at w i).place e)

  abbrev y : Answer
  y = (turn_by w u).answer

  inside : i < 33
  inside = omega (arith, low, high, h.size, (facts w h.held.is_sound).head.0.1.0)

  some : operates y ≡ true → rests ≡ true → 1 ≤ e
  some o r = acting w table i e h.held.is_sound low (omega (arith, h.size)) r (λ q. false≢true (sym (ap operates q) ∙ o))

  free : operates y ≡ true → rests ≡ true → (1 ≤ e) × (g.first e ≡ 0)
  free o r = (some o r, not_begun h.plan i inside (some o r))

  small : e < 1025
  small = ⊎_elim (λ z. omega arith) (λ m. omega (arith, m.1)) (h.plan.mine i inside)

  files_on : {rest : List Step} → Ahead steps s.turns (record { bench = w; turn = u; offer = e } ∷ rest) → Filed x n table steps (step_run table s i) (journal_step table s g i)
  unfolding after
  files_on a =
      let d = (station_at w i).own in
      let opened = opens w (s.turns + 1) e u y g in
      record {
        held = turn_held h.held e u free;
        pins = next_pins a h.held h.pins free;
        size = same_size h.held u ∙ h.size;
        matches =
            noted_matches h.matches table w (s.turns + 1) e (station_at (turn_by w u).bench i).own u small y inside
            (λ q.
            counts h.held u i ∙ ap (counted i d u) q ∙ rw (eq-eqb i i refl) (ap (λ k. k + 1) (sym (turn_had h.held e u (free (ap operates q))))))
            (λ result took q.
            sym (ap (λ y. (told y).own) q) ∙ ((own_turn h.held u).ended (ap (λ y. (told y).case) q)).0 ∙ ap (λ k. k + 1) (sym (turn_had h.held e u (free (ap operates q)))));
        plan =
            recast
            (noted_upcoming table w (s.turns + 1) i (call_for (station_at w i).place e (get_or s.book.latest i 0)) (station_at (turn_by w u).bench i).own y s.book
            ∙ same_next (λ c. set s.book.upcoming i (call_after table i c)) (operates y) rests e (get_or s.book.latest i 0) s.book.upcoming)
            opened.station opened.call opened.first
            (planned g h.plan i inside (operates y && rests) (s.turns + 1) (call u.kind u.a u.b)
            (λ b.
            let o = and_left (operates y) rests b in
            let r = and_right (operates y) rests b in
            (some o r, offers_it table rests e r (some o r))));
      }

-- along the run, to its end
pub record FiledRun (x n : ℕ) (table : List ℕ) (steps : List Step) (s : Run) (g : Journal) : Type 0 where
  pub filed : Filed x n table steps s g
  pub whole : Ahead steps s.turns []

filed_run : {x n : ℕ} {table : List ℕ} {s : Run} {g : Journal} (steps : List Step) (is : List ℕ) → records table ≤ 1024
    → ((k : ℕ) → k < length is → (1 ≤ get_or is k 0) × (get_or is k 0 ≤ n)) → Ahead steps s.turns (steps_run table s is) → Filed x n table steps s g
    → FiledRun x n table steps (run_from table s is) (journal_run table s g is)
unfolding run_from steps_run journal_run
filed_run steps [] calls good a h = record { filed = h; whole = a }
filed_run {table = table} {s = s} {g = g} steps (i ∷ is) calls good a h =
    let t = good 0 (omega arith) in
    filed_run {s = step_run table s i} {g = journal_step table s g i} steps is calls (λ k l. good (suc k) (omega arith)) (next_ahead a) (files_on h calls i t.0 t.1 a)

-- from a fresh bench and an empty book
filed_start : (x n : ℕ) (table : List ℕ) (steps : List Step) → 1 ≤ n → n ≤ 32 → Filed x n table steps (record { bench = blank x n; turns = 0; book = empty_book table }) no_calls
filed_start x n table steps low high =
    record {
      held = fresh_held x n low high;
      pins = no_pins steps;
      size = refl;
      matches =
          record {
            latest = record { long = refl; reads = everywhere 0 33 };
            within = λ j. omega arith;
            own = record { long = refl; reads = everywhere 0 1025 };
            result = record { long = refl; reads = everywhere 0 1025 };
            last = record { long = refl; reads = everywhere 0 1025 };
            point = record { long = refl; reads = everywhere 0 1025 };
            list = refl;
          };
      plan =
          record {
            heads = how_many table 33;
            mine = λ i h. rw (first_call_lem table 33 i h) (mine_after table i 0);
            calls = λ c h. absurd (omega arith);
            next = λ c h. absurd (omega arith);
          };
    }

-- the run of a file that reads well, with its journal
pub every_file_journal : (file : List ℕ) → (read_of file).refused ≡ 0
    → FiledRun (read_of file).x (read_of file).n (table_of file) (steps_of_file file) (run_of_file file) (journal_of_file file)
every_file_journal file well =
    let r = reads_well file well in
    let x = (read_of file).x in
    let n = (read_of file).n in
    let table = table_of file in
    let steps = steps_of_file file in
    let start : Filed x n table steps (record { bench = (fresh_of x n).bench; turns = 0; book = empty_book table }) no_calls =
    subst⁻¹ (λ m. Filed x n table steps (record { bench = m.bench; turns = 0; book = empty_book table }) no_calls) (fresh_bench x n r.some r.few)
    (filed_start x n table steps r.some r.few) in
    filed_run steps (turns_of file) r.good.calls r.good.turn (all_ahead steps) start

pub every_file : EveryFile
unfolding EveryFile
every_file file well =
    let r = every_file_journal file well in
    let f = r.filed in
    let steps = steps_of_file file in
    let g = journal_of_file file in
    let done = ran r.whole f.held f.pins in
    let same : (run_of_file file).book.list ≡ effects steps (length steps) = f.matches.list ∙ done.pins.list in
    record {
      run =
          record {
            log = log_in g;
            pinned = ran_pinned done;
            demand = subst⁻¹ (λ l. Demand3 (read_of file).x (run_of_file file).bench.v.second (log_in g) l) same (ran_demand done);
          };
      in_order = same;
      calls = f.plan.calls;
      booked = λ c. record { own = f.matches.own.reads c; result = f.matches.result.reads c; last = f.matches.last.reads c; point = f.matches.point.reads c };
    }
