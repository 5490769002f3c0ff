-- `put_all_right`: the rows of the vertices below x are right.
use Rattle.std.proofs.Common.{◌+◌, ◌-◌}
use Rattle.index.specs.Indexed.{RightTo}
use Rattle.index.proofs.rows.put_all_right.Given as goal

abbrev pub invariant-loop-x : goal.invariant-loop-x
invariant-loop-x l = RightTo l.gains l.blocks l.n l.k l.initial.index l.index l.x
