-- A fresh bench, a linked row, the loop, and what it leaves.
use Prim.Native.Nat.{ℕ, ◌+◌, ◌*◌, ◌-◌, ◌<◌, ◌≤◌}
use native.Mathlib.Omega.{arith}
use mathlib.Core.Path.{◌≡◌, ◌∙◌, sym, ap}
use mathlib.Core.List.{List}
use borrow.Author.Rules.{rules}
use lib.ListN.{length, get_or}
use Rattle.std.specs.Prelude.{Ok}
use Rattle.bench.specs.declared.Made.{Made}
use Rattle.bench.specs.Record.{blank}
use Rattle.bench.specs.Sound.{sound}
use Rattle.bench.specs.Turn.{fresh_of}
use Rattle.runfile.specs.declared.Contents.{Contents}
use Rattle.runfile.specs.Layout.{part}
use Rattle.runfile.specs.Reading.{ReadAnswer, read_numbers, read_of, table_of, turns_of}
use Rattle.runfile.proofs.Answers.{Inside, inside}
use Rattle.run.specs.Drive.{LinkedIn}
use Rattle.run.proofs.Points.{few_listed}
use Rattle.run.proofs.Files.{reads_well}
use Rattle.run.proofs.Start.{is_fresh, is_sound, starts, ran_through}
use Rattle.run.proofs.Traces.{turns_counted, all_zeros, whole}
use Rattle.run.proofs.ran.ran.Goals as goal

-- of what the file holds
module _ (file : List ℕ) (has : Contents) (q : read_numbers (Ok has) ≡ read_of file) where
  well : (read_of file).refused ≡ 0
  well = sym (ap (λ r. r.refused) q)

  -- the parts are those of the file
  table : (bytes : List ℕ) → bytes ≡ part file has.start (12 * has.q) → bytes ≡ table_of file
  table bytes e = e ∙ ap (λ (r : ReadAnswer). part file r.start (12 * r.q)) q

  turns : (bytes : List ℕ) → bytes ≡ part file has.middle has.t → bytes ≡ turns_of file
  turns bytes e = e ∙ ap (λ (r : ReadAnswer). part file r.middle r.t) q

  -- what was linked is the file's call table
  linked : (bytes row : List ℕ) → bytes ≡ part file has.start (12 * has.q) → LinkedIn bytes row 0 → LinkedIn (table_of file) row 0
  linked bytes row e l = rw (table bytes e) at l

  made : (m : Made) (row : List ℕ) → LinkedIn (table_of file) row 0 → m ≡ fresh_of has.x has.n → m.bench ≡ blank (read_of file).x (read_of file).n
  made m row l e = ap (λ (r : Made). r.bench) (e ∙ ap (λ (r : ReadAnswer). fresh_of r.x r.n) q ∙ is_fresh file row well l)

pub overflow_mul-has : goal.overflow_mul-has
overflow_mul-has c =
    let i : Inside c.args.file.now (read_numbers (Ok c.args.has)) = rw c.requires.1 (inside c.args.file.now) in
    omega (arith, i.table)

pub link-requires : goal.link-requires
link-requires c =
    let f = c.args.file.now in
    let w = reads_well f (well f c.args.has c.requires.1) in
    let t = table f c.args.has c.requires.1 c.part-table.result.now c.part-table.ensures in
    (c.requires.0, (rw t w.good.calls, rw t w.stations))

pub invariant_of-drive : goal.invariant_of-drive
invariant_of-drive c =
    let f = c.args.file.now in
    let q = c.requires.1 in
    let w = well f c.args.has q in
    let l = linked f c.args.has q c.part-table.result.now c.link.new.row c.part-table.ensures c.link.ensures in
    record { is_sound = ap sound (made f c.args.has q c.fresh.result c.link.new.row l c.fresh.ensures) ∙ is_sound f c.link.new.row w l }

pub drive-d-requires : goal.drive-d-requires
drive-d-requires c =
    let f = c.args.file.now in
    let q = c.requires.1 in
    let l = linked f c.args.has q c.part-table.result.now c.link.new.row c.part-table.ensures c.link.ensures in
    starts f c.link.new.row (well f c.args.has q) l _ _ _ (made f c.args.has q c.fresh.result c.link.new.row l c.fresh.ensures)
    (table f c.args.has q _ c.part-table.ensures) (turns f c.args.has q _ c.part-turns.ensures)

-- the list has its place
pub slice_bounds-fill-count : goal.slice_bounds-fill-count
slice_bounds-fill-count c =
    let room : c.drive-d.result.tally.listed ≤ 1025 = few_listed c.drive-d.ensures.fits in
    omega (arith, room, c.drive-d.ensures.fits.places)

pub slice_bounds-fill-start : goal.slice_bounds-fill-start
slice_bounds-fill-start c =
    let room : c.drive-d.result.tally.listed ≤ 1025 = few_listed c.drive-d.ensures.fits in
    omega (arith, room, c.drive-d.ensures.fits.places)

pub overflow_cast-result : goal.overflow_cast-result
overflow_cast-result c =
    let f = c.args.file.now in
    omega (arith, turns_counted f (read_numbers (Ok c.args.has)) c.requires.1, (reads_well f (well f c.args.has c.requires.1)).good.few)

pub returns : goal.returns
returns c =
    let f = c.args.file.now in
    let q = c.requires.1 in
    let row = c.drive-d.new.row in
    let at = 4100 + c.drive-d.result.tally.listed in
    let long : length c.fill.new.self ≡ length row - at = search rules in
    let zero : (k : ℕ) → k < length row - at → get_or c.fill.new.self k 0 ≡ 0 = search rules in
    let l = linked f c.args.has q c.part-table.result.now c.link.new.row c.part-table.ensures c.link.ensures in
    whole f row c.drive-d.result c.drive-d.ensures.fits
    (ran_through f c.link.new.row (well f c.args.has q) l _ _ _ (made f c.args.has q c.fresh.result c.link.new.row l c.fresh.ensures)
    (table f c.args.has q _ c.part-table.ensures) (turns f c.args.has q _ c.part-turns.ensures) c.drive-d.result _ c.drive-d.ensures)
    c.fill.new.self _ _ (ap (λ (r : ReadAnswer). r.q) q) (turns_counted f (read_numbers (Ok c.args.has)) q)
    (all_zeros c.fill.new.self (length row - at) long zero)
