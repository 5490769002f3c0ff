-- `next_rising`: the candidates before bit j have no better pair.
use Rattle.std.proofs.Common.{◌≡◌, ◌≤◌, ◌-◌, ◌+◌, ◌*◌}
use Rattle.best_move.specs.Rising.{Passed}
use Rattle.best_move.proofs.rising.next_rising.Given as goal

abbrev pub invariant-loop-j : goal.invariant-loop-j
invariant-loop-j l = (l.j ≤ 64) × Passed l.gains l.blocks l.weights l.rooms l.word l.first l.size l.k l.low l.from l.j

abbrev pub decreases-loop-j : goal.decreases-loop-j
decreases-loop-j l = 64 - l.j
