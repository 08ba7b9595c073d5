-- A station's record from one place to the next, where the registers have what the row has read or written. Assumes nothing.
use mathlib.Core.Path.{◌≡◌}
use mathlib.Core.Logic.{inl}
use Prim.Native.Nat.{ℕ, ◌+◌, ◌%◌, ◌≤◌}
use borrow.Author.Rules.{rules}
use Rattle.card.specs.declared.Halves.{Halves}
use Rattle.card.specs.declared.Claim.{Claim}
use Rattle.method.specs.declared.Place.TheVariants.{Rest, At11, At12, At13, At14, At15, At16, At18, At19, At20}
use Rattle.method.specs.declared.Call.{Call}
use Rattle.method.specs.declared.Station.{Station}
use Rattle.method.specs.Record.{resting}
use Rattle.method.specs.Table.{sees, goes, begun, grown}
use Rattle.method.proofs.Kept.{Claimed, Called, Awaits, Got, Stands}

module _ {n : ℕ} {v : Halves} {p : Claim} {a r : ℕ → Halves} {i : ℕ} {t : Station} where
  -- at rest the registers of the word do not matter
  pub any_word : (v' : Halves) (p' : Claim) → Stands n v p a r Rest i t → Stands n v' p' a r Rest i t
  any_word v' p' h = search rules

  pub to11 : (o : Call) → Called n v i (begun o v.first t.c) → Stands n v p a r Rest i t → Stands n v p a r At11 i (begun o v.first t.c)
  to11 o d h = search rules

  pub to12 : {a' : ℕ → Halves} → (a' i).first ≡ t.c + 1 → (a' i).second ≡ t.call.b → Stands n v p a r At11 i t → Stands n v p a' r At12 i (grown t)
  to12 {a'} c d h = search rules

  pub to13 : {r' : ℕ → Halves} → (r' i).first ≡ t.c → (r' i).second ≡ 0 → Stands n v p a r At12 i t → Stands n v p a r' At13 i (goes t At13)
  to13 {r'} c d h = let x : Awaits v p (r' i) i t.s = inl d in search rules

  pub to14 : t.s + 1 ≤ p.seq → Stands n v p a r At13 i t → Stands n v p a r At14 i (goes t At14)
  to14 d h = search rules

  pub to15 : t.s + 2 ≤ p.seq → Stands n v p a r At14 i t → Stands n v p a r At15 i (goes t At15)
  to15 d h = search rules

  pub to16 : (p.seq % 2 ≡ 0 → Claimed v p (a p.pid) (r p.pid) p) → Stands n v p a r At15 i t → Stands n v p a r At16 i (sees t At16 p t.entry)
  to16 d h = search rules

  pub to18 : {e : Halves} → Got v (a t.saw.pid) t.saw e → Stands n v p a r At16 i t → Stands n v p a r At18 i (sees t At18 t.saw e)
  to18 {e} d h = search rules

  pub past18 : (e : Halves) → t.s + 2 ≤ v.first → Stands n v p a r At16 i t → Stands n v p a r At20 i (sees t At20 t.saw e)
  past18 e d h = search rules

  pub to19 : ((r t.saw.pid).first ≡ t.saw.c → (r t.saw.pid).second ≡ 1) → Stands n v p a r At18 i t → Stands n v p a r At19 i (goes t At19)
  to19 d h = search rules

  pub to20 : t.s + 2 ≤ v.first → Stands n v p a r At19 i t → Stands n v p a r At20 i (goes t At20)
  to20 d h = search rules

  pub to_rest : Stands n v p a r At20 i t → Stands n v p a r Rest i (resting t.c)
  to_rest h = search rules
