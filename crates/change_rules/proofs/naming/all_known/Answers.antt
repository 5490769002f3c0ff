use Rattle.std.proofs.Common.{rules, tests, ◌∙◌}
use Rattle.std.proofs.lemmas.Iterator.{YieldsList-from_slice}
use Rattle.std.proofs.lemmas.Iterator.Search.{all_from_yields_List}
use Rattle.edit_calls.specs.Refusal.{known}
use Rattle.change_rules.specs.Named.{all-list}
use Rattle.change_rules.proofs.naming.all_known.Goals as goal

pub returns : goal.returns
returns c =
    all_from_yields_List (known c.args.m) _ _ c.all.result c.all.ensures.ran (YieldsList-from_slice c.args.buyers.now cc) (λ x b q k. search (rules, tests)) ∙ all-list c.args.buyers.now (known c.args.m)
