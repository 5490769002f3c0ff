use Rattle.std.proofs.Common.{◌∙◌}
use Rattle.change_rules.specs.Free.{next_some, next_none}
use Rattle.change_rules.proofs.free.Free.next.Goals as goal

pub returns-in-Some : goal.returns-in-Some
returns-in-Some c = c.from.ensures ∙ next_some _ _ _ _ c.in-Some.ensures

pub returns-in-None : goal.returns-in-None
returns-in-None c = next_none _ _ _ c.in-None.ensures
