use Rattle.operations.specs.Total.{plus-raised, minus-raised}
use Rattle.operations.proofs.moves.raise_total.Goals as goal

pub overflow_add-result : goal.overflow_add-result
overflow_add-result c =
    record { fits = (plus-raised c.args.total c.args.gain c.in-Plus.g c.requires c.ranges.gain c.side.ensures c.in-Plus.is).0 }

pub overflow_sub-result : goal.overflow_sub-result
overflow_sub-result c =
    (minus-raised c.args.total c.args.gain c.in-Minus.g c.requires c.ranges.gain c.side.ensures c.in-Minus.is).0

pub returns-in-Plus : goal.returns-in-Plus
returns-in-Plus c =
    (plus-raised c.args.total c.args.gain c.in-Plus.g c.requires c.ranges.gain c.side.ensures c.in-Plus.is).1

pub returns-in-Minus : goal.returns-in-Minus
returns-in-Minus c =
    (minus-raised c.args.total c.args.gain c.in-Minus.g c.requires c.ranges.gain c.side.ensures c.in-Minus.is).1
