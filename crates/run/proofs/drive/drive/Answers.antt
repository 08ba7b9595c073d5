use mathlib.Core.Path.{◌≡◌, refl, ◌∙◌}
use Prim.Native.Nat.{◌+◌, ◌<◌}
use native.Mathlib.Omega.{arith}
use borrow.Author.Rules.{rules}
use lib.ListN.{get_or}
use Rattle.bench.specs.Record.{station_at}
use Rattle.run.specs.Calls.{errand_by}
use Rattle.run.specs.Row.{head_part, latest_part, part_of}
use Rattle.run.specs.Drive.{Driven}
use Rattle.run.proofs.Loop.{all_turned, inside, errand_is, is_idle, may_take, within, s_small, after_idle, after_going, after_end}
use Rattle.run.proofs.drive.drive.Goals.{After-from-i, In-Some}
use Rattle.run.proofs.drive.drive.Goals as goal

-- a turn's station has its entry
has_entry : (c : After-from-i) → c.from-i.result < 33
has_entry c = inside _ _ _ _ _ _ _ _ c.loop-k.invariant.1 c.loop-k-test.true c.requires.good c.from-i.result c.from-i.ensures

pub bounds-w-at : goal.bounds-w-at
bounds-w-at c = has_entry (goal.at.bounds-w-at c).After-from-i

pub bounds-w-at-in-loop-k : goal.bounds-w-at-in-loop-k
bounds-w-at-in-loop-k c = has_entry (goal.at.bounds-w-at-in-loop-k c).After-from-i

-- an idle turn
pub loop-k-preserved-in_default : goal.loop-k-preserved-in_default
loop-k-preserved-in_default c =
    let k = c.loop-k.invariant in
    let i = c.from-i.result in (
      c.idled.ensures.same ∙ k.0,
      after_idle _ _ _ _ _ _ _ _ k.1 c.loop-k-test.true c.requires.good i c.from-i.ensures _ _
          (is_idle _ _ _ _ _ _ _ _ k.1 c.loop-k-test.true c.requires.good i c.from-i.ensures _ c.errand.ensures c.in_default.is) c.idled.ensures.became,
    )

-- the errand of any other is that of its station's place and calls
the_errand : (c : In-Some) → let l = c.loop-k in
    let i = c.from-i.result in
    c.in-Some.e ≡ errand_by (station_at l.w.bench i).place (l.k + 1) i (get_or (part_of l.book.row.now head_part) i 0) (get_or (part_of l.book.row.now latest_part) i 0)
the_errand c =
    errand_is _ _ _ _ _ _ _ _ c.loop-k.invariant.1 c.loop-k-test.true c.requires.good c.from-i.result c.from-i.ensures _ c.errand.ensures c.in-Some.e c.in-Some.is

-- a turn that did not end its call
pub not_ended-requires : goal.not_ended-requires
not_ended-requires c =
    let k = c.loop-k.invariant.1 in
    let i = c.from-i.result in
    let e = the_errand (goal.at.not_ended-requires c).In-Some in (
      may_take _ _ _ _ _ _ _ _ k c.loop-k-test.true c.requires.good i c.from-i.ensures c.loop-k.book c.in-Some.e refl refl e,
      within _ _ _ _ _ _ _ _ k c.loop-k-test.true c.requires.good i c.from-i.ensures _ e _ _ _ c.offered.ensures c.turn-x.ensures _ c.operation-o.ensures,
    )

pub waiting-waits-requires : goal.waiting-waits-requires
waiting-waits-requires c = s_small c.turn-x.new.self.bench c.from-i.result c.turn-x.new.self.is_sound (has_entry (goal.at.waiting-waits-requires c).After-from-i)

pub loop-k-preserved-in_default-x : goal.loop-k-preserved-in_default-x
loop-k-preserved-in_default-x c =
    let k = c.loop-k.invariant in (
      c.not_ended.ensures.same ∙ k.0,
      after_going _ _ _ _ _ _ _ _ k.1 c.loop-k-test.true c.requires.good c.from-i.result c.from-i.ensures _
          (the_errand (goal.at.loop-k-preserved-in_default-x c).In-Some)
          _ _ _ c.offered.ensures c.turn-x.ensures _ _ _ _ c.in_default-x.not-Ended c.operation-o.ensures c.waiting-waits.ensures c.not_ended.ensures.became,
    )

-- and one that ended it
pub finished-requires : goal.finished-requires
finished-requires c =
    may_take _ _ _ _ _ _ _ _ c.loop-k.invariant.1 c.loop-k-test.true c.requires.good c.from-i.result c.from-i.ensures c.loop-k.book c.in-Some.e refl refl
    (the_errand (goal.at.finished-requires c).In-Some)

pub loop-k-preserved : goal.loop-k-preserved
loop-k-preserved c =
    let k = c.loop-k.invariant in (
      c.finished.ensures.same ∙ k.0,
      after_end _ _ _ _ _ _ _ _ k.1 c.loop-k-test.true c.requires.good c.from-i.result c.from-i.ensures _
          (the_errand (goal.at.loop-k-preserved c).In-Some)
          _ _ _ c.offered.ensures c.turn-x.ensures _ _ _ _ _ c.in-Ended.is c.waiting-waits.ensures c.finished.ensures.became,
    )

pub returns : goal.returns
returns c =
    let a = c.args in
    let k = c.loop-k in
    let w : Driven a.w.bench a.table.now a.turns.now a.row.now (record { bench = k.w.bench; tally = k.book.tally }) k.book.row.now =
    rw (← c.new-book.ensures.stands) (record { run = all_turned _ _ _ _ _ _ _ _ k.invariant.1 (omega arith); fits = k.invariant.1.fits }) in
    search rules
