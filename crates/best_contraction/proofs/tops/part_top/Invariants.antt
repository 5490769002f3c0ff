-- `part_top`: i fours are seen.
use Rattle.std.proofs.Common.{◌+◌, ◌*◌}
use Rattle.best_contraction.specs.PartTop.{TopOf}
use Rattle.best_contraction.proofs.tops.part_top.Given as goal

abbrev pub invariant-loop-i : goal.invariant-loop-i
invariant-loop-i l = TopOf l.bounds l.from (l.from + 4 * l.i) l.top
