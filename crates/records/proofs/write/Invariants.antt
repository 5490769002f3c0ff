-- `write`: the first i records are written.
use Rattle.std.proofs.Common.{◌-◌, ◌≡◌, ◌≤◌}
use Rattle.records.specs.Over.{over}
use Rattle.records.proofs.write.Given as goal

abbrev pub invariant-loop-i : goal.invariant-loop-i
invariant-loop-i l = (l.i ≤ l.n) × (l.lots ≡ over l.i l.new l.initial.lots)
