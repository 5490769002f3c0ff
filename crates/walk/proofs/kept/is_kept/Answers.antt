-- `is_kept`: the metrics first, then the heaviest blocks.
use Rattle.std.proofs.Common.{◌∙◌}
use Rattle.walk.specs.Kept.{order-is}
use Rattle.walk.proofs.kept.is_kept.Goals as goal

pub returns : goal.returns
returns c = let a = c.args in c.lt.ensures ∙ order-is a.total a.heavy a.low a.most
