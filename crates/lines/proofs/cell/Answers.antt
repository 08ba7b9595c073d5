use mathlib.Core.Path.{sym}
use native.Mathlib.Omega.{arith}
use lib.ListN.{drop}
use lib.Seq.{get_or-take, get_or-drop}
use Rattle.std.proofs.Common.{rules}
use Rattle.std.proofs.lemmas.List.{get_or_past, length-take}
use Rattle.run.specs.Row.{by_call}
use Rattle.lines.proofs.cell.Goals as goal

pub returns-then-at-ge-BY_CALL : goal.returns-then-at-ge-BY_CALL
returns-then-at-ge-BY_CALL c = sym (get_or_past _ c.args.i 0 (simp length-take (omega arith)))

pub returns : goal.returns
returns c =
    let a = c.args in
    rw (get_or-take by_call (drop a.start a.row.now) a.i 0 (omega arith), get_or-drop a.start a.row.now a.i 0) (search rules)
