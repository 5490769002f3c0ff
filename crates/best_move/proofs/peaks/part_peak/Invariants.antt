-- `part_peak`: vertex by vertex, or i fours of blocks.
use Rattle.std.proofs.Common.{◌*◌}
use Rattle.best_move.specs.Peak.{Before}
use Rattle.best_move.proofs.peaks.part_peak.Given as goal

abbrev pub invariant-loop-i : goal.invariant-loop-i
invariant-loop-i l = Before l.gains l.from l.to l.k (4 * l.i) l.peak
