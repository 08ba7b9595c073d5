use borrow.Author.Rules.{rules}
use borrow.Author.Tests.{tests}
use mathlib.Core.Path.{◌∙◌, refl}
use lib.ListN.{get_or}
use Rattle.std.proofs.lemmas.Iterator.{YieldsList-from_range}
use Rattle.std.proofs.lemmas.Iterator.Search.{all_from_yields_List}
use Rattle.probing.specs.Numbers.{is_place, place_at}
use Rattle.probing.proofs.Filled.{places_all}
use Rattle.probing.proofs.numbers.places_good.Goals as goal

pub returns : goal.returns
returns c =
    let xs = c.args.row.now in
    all_from_yields_List (λ i. is_place (get_or xs (place_at i) 0)) _ _ _ c.all.ensures.ran (YieldsList-from_range 0 33 33 refl refl) (λ x b q k. search (rules, tests)) ∙ places_all xs 33
