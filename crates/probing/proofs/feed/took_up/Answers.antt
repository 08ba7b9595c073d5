use borrow.Author.Tests.{lt-ltb, le-ltb}
use mathlib.Core.Path.{◌∙◌, sym}
use Rattle.probing.specs.Feed.{text_at}
use Rattle.probing.proofs.feed.took_up.Goals as goal

pub returns-then-p-ge-NO_NUMBER-clause-written : goal.returns-then-p-ge-NO_NUMBER-clause-written
unfolding text_at
returns-then-p-ge-NO_NUMBER-clause-written c = rw (le-ltb _ _ c.if-p-ge-NO_NUMBER.true) c.put_fault.ensures

pub returns-then-not-places_good-clause-written : goal.returns-then-not-places_good-clause-written
unfolding text_at
returns-then-not-places_good-clause-written c =
    let e = lt-ltb _ _ c.if-p-ge-NO_NUMBER.false in
    let f = le-ltb _ _ c.if-p-lt-CASE_SIZE.false in
    let g = sym c.places_good.ensures ∙ c.if-not-places_good.true in
    rw (e, f, g) c.put_fault-then-not-places_good.ensures
