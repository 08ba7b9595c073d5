-- The loop keeps: those that wait among the stations passed so far are listed.
use Prim.Native.Nat.{◌+◌, ◌-◌, ◌≤◌}
use Rattle.run.proofs.Ledgers.{Raised}
use Rattle.run.proofs.Ledger.raise.Given as goal

abbrev pub invariant-loop-j : goal.invariant-loop-j
invariant-loop-j l = (l.j ≤ l.n + 1) × Raised l.initial.self l.saw l.turn (l.j - 1) l.self
