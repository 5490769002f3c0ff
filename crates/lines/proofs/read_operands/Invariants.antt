-- `lines::read_operands` meets its contract. The invariant: the operands are the numbers before `i`, and twice as many bytes stand before it.
use Rattle.std.proofs.Common.{◌-◌}
use Rattle.lines.proofs.Operands.{OnOperands}
use Rattle.lines.proofs.read_operands.Given as goal

abbrev pub invariant-loop-f : goal.invariant-loop-f
invariant-loop-f l = OnOperands l.s l.at l.end l.first l.initial.operands l.operands l.i l.m

abbrev pub decreases-loop-f : goal.decreases-loop-f
decreases-loop-f l = l.end - l.i
