use Rattle.operations.specs.Total.{plus-side, minus-side}
use Rattle.operations.proofs.moves.lower_total.Goals as goal

pub overflow_sub-result : goal.overflow_sub-result
overflow_sub-result c =
    (plus-side c.args.total c.args.gain c.in-Plus.g c.requires c.ranges.gain c.side.ensures c.in-Plus.is).0

pub overflow_add-result : goal.overflow_add-result
overflow_add-result c =
    record { fits = (minus-side c.args.total c.args.gain c.in-Minus.g c.requires c.ranges.gain c.side.ensures c.in-Minus.is).0 }

pub returns-in-Plus : goal.returns-in-Plus
returns-in-Plus c =
    (plus-side c.args.total c.args.gain c.in-Plus.g c.requires c.ranges.gain c.side.ensures c.in-Plus.is).1

pub returns-in-Minus : goal.returns-in-Minus
returns-in-Minus c =
    (minus-side c.args.total c.args.gain c.in-Minus.g c.requires c.ranges.gain c.side.ensures c.in-Minus.is).1
