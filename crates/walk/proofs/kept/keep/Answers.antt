-- `keep`: the test passes, or not.
use Rattle.walk.specs.Kept.{choice-new, choice-old}
use Rattle.walk.proofs.kept.keep.Goals as goal

pub returns-then-is_kept : goal.returns-then-is_kept
returns-then-is_kept c = record { kept_value = choice-new _ c.is_kept.ensures c.if-is_kept.true; heaviest_value = choice-new _ c.is_kept.ensures c.if-is_kept.true }

pub returns : goal.returns
returns c = record { kept_value = choice-old _ c.is_kept.ensures c.if-is_kept.false; heaviest_value = choice-old _ c.is_kept.ensures c.if-is_kept.false }
