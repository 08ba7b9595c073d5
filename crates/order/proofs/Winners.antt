-- A raise is for the call that the saved pid's station is in: the latest claim is P as it stands, and its station contends. Assumes nothing.
use mathlib.Core.Path.{◌≡◌, refl}
use mathlib.Core.Bool.{true, false≢true}
use native.Mathlib.Omega.{arith}
use borrow.Author.Tests.{ltb-true}
use lib.Dec.{eqb, ltb}
use Rattle.rules.proofs.Facts.{and_left, and_right}
use Rattle.method.specs.declared.Place.{Place}
use Rattle.method.specs.declared.Place.TheVariants.{Rest, At11, At12, At13, At14, At15, At16, At18, At19, At20}
use Rattle.method.specs.Record.{num}
use Rattle.method.proofs.Kept.{stands_at}
use Rattle.method.proofs.Effects.{latest}
use Rattle.bench.specs.Record.{station_at}
use Rattle.bench.specs.Turn.{fresh_of}
use Rattle.bench.specs.Promise.{after}
use Rattle.order.specs.Winners.{WinnersAreNamed}
use Rattle.order.proofs.Runs.{every_journal}

at_19 : (p : Place) → eqb (num p) 19 ≡ true → p ≡ At19
at_19 Rest e = absurd (false≢true e)
at_19 At11 e = absurd (false≢true e)
at_19 At12 e = absurd (false≢true e)
at_19 At13 e = absurd (false≢true e)
at_19 At14 e = absurd (false≢true e)
at_19 At15 e = absurd (false≢true e)
at_19 At16 e = absurd (false≢true e)
at_19 At18 e = absurd (false≢true e)
at_19 At19 e = refl
at_19 At20 e = absurd (false≢true e)

pub winners_are_named : WinnersAreNamed
unfolding WinnersAreNamed
winners_are_named x n low high us i up =
    let w = after (fresh_of x n).bench us in
    let t = station_at w i in
    let k = (every_journal x n low high us).held.inv.kept in
    let is = at_19 t.place (and_left (eqb (num t.place) 19) (ltb w.v.first t.saw.seq) up) in
    let more = ltb-true w.v.first t.saw.seq (and_right (eqb (num t.place) 19) (ltb w.v.first t.saw.seq) up) in
    let h = stands_at k i is in
    let l = latest k i h.saw h.got.even more in
    let c = l.contends in
    record { past = omega (arith, c.far); version = omega (arith, c.version, l.full); count = c.count }
