use mathlib.Core.Path.{refl, ◌∙◌}
use Rattle.std.proofs.Common.{rules, tests}
use Rattle.std.proofs.lemmas.Iterator.{YieldsList-from_range}
use Rattle.std.proofs.lemmas.Iterator.Search.{all_from_yields_List}
use Rattle.reach.specs.Step.{count_limit}
use Rattle.bench.proofs.Entries.{kept_at, all_tested}
use Rattle.bench.proofs.Bench.entries_ok.Goals as goal

pub returns : goal.returns
returns c =
    let w = c.args.self.now in
    all_from_yields_List (kept_at count_limit w) _ _ _ c.all.ensures.ran (YieldsList-from_range 0 33 33 refl refl) (λ x b q k. search (rules, tests))
    ∙ all_tested count_limit w 33
