use mathlib.Core.Path.{◌≡◌, refl}
use Prim.Native.Nat.{◌+◌, ◌-◌}
use native.Mathlib.Omega.{arith}
use borrow.Author.Tests.{eq-eqb, ne_eqb}
use lib.ListN.{get_or}
use Rattle.run.proofs.Ledgers.{Raised, one_waits, one_less, winner_first}
use Rattle.run.proofs.Ledger.raise.Goals.{Joined-j-saw, then-j-saw+then-self-j, else-j-saw, else-j-saw-via-then-j-saw+else-self-j, else-j-saw-via-else-j-saw}
use Rattle.run.proofs.Ledger.raise.Goals as goal

-- after the branch station j is passed too
raised : (c : Joined-j-saw) → Raised c.enter.new.self c.args.saw c.args.turn (c.loop-j.j + 1 - 1) c.if-j-saw.self
raised c =
    let a = c.args in
    let k = c.loop-j in
    elim c.if-j-saw.branch [
      | then-j-saw+then-self-j w ↦ one_waits c.enter.new.self a.saw a.turn k.j _ _ _ k.auto.j (omega (arith, c.requires.1.0)) k.invariant.1 (rw (ne_eqb k.j a.saw.pid w.if-j-saw.true, eq-eqb (get_or k.self.row.now (5158 + k.j) 0) a.saw.seq w.if-self-j.true) refl) w.enter-then-self-j.ensures w.self-is
      | else-j-saw w ↦ one_less c.enter.new.self a.saw a.turn k.j _ _ k.auto.j (omega (arith, c.requires.1.0)) k.invariant.1
          (elim w.else-j-saw.branch [
            | else-j-saw-via-then-j-saw+else-self-j v ↦ rw (ne_eqb k.j a.saw.pid v.if-j-saw.true, ne_eqb (get_or k.self.row.now (5158 + k.j) 0) a.saw.seq v.if-self-j.false) refl
            | else-j-saw-via-else-j-saw v ↦ rw (eq-eqb k.j a.saw.pid v.if-j-saw.false) refl
          ]) w.self-is
    ]

pub loop-j-preserved : goal.loop-j-preserved
loop-j-preserved c = (omega arith, raised c.before)

pub returns : goal.returns
returns c =
    let e : c.loop-j.j - 1 ≡ c.args.n = omega (arith, c.loop-j.invariant.0, c.loop-j.auto.j, c.loop-j.auto.j-end) in
    winner_first c.args.saw c.args.turn c.args.n c.enter.ensures (rw e at c.loop-j.invariant.1)

pub returns-after-j-saw : goal.returns-after-j-saw
returns-after-j-saw c =
    let e : c.loop-j.j + 1 - 1 ≡ c.args.n = omega arith in
    winner_first c.args.saw c.args.turn c.args.n c.enter.ensures (rw (← e) (raised c.before))
