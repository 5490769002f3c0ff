-- `set_tops`: the tops of the first i parts.
use Rattle.best_contraction.specs.PartTop.{ToppedTo}
use Rattle.best_contraction.proofs.tops.set_tops.Given as goal

abbrev pub invariant-loop-i : goal.invariant-loop-i
invariant-loop-i l = ToppedTo l.bounds l.n l.i l.tops
