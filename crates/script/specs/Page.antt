-- What every writer of text does with a page: one record for all their contracts. Assumes nothing.
use Rattle.std.specs.Prelude.{◌≡◌, List, ℕ}
use Rattle.std.specs.Borrow.{MutBor}
use Rattle.script.specs.declared.Page.{Page}
use Rattle.script.specs.Wrote.{Wrote}

-- a page over this buffer, with nothing written
pub record Opens (out : MutBor (List ℕ)) (page : Page) : Type 0 where
  pub same : page.out.ghost_name ≡ out.ghost_name
  pub stands : page.out.now ≡ out.now
  pub place : page.at ≡ 0

-- the text stands in the page's buffer from its place on, as far as the buffer goes, and the page's place is after it; the buffer is the same one
pub record Writes (before after : Page) (text : List ℕ) : Type 0 where
  pub same : after.out.ghost_name ≡ before.out.ghost_name
  pub wrote : Wrote before.out.now after.out.now before.at after.at text
