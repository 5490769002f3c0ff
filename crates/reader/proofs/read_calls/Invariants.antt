-- `reader::read_calls` meets its contract.
use Rattle.std.proofs.Common.{◌-◌, length}
use Rattle.reader.proofs.Turns.{OnCalls}
use Rattle.reader.proofs.read_calls.Given as goal

abbrev pub invariant-loop-i : goal.invariant-loop-i
invariant-loop-i l = OnCalls l.s l.at l.n l.initial.calls l.initial.operands l.calls l.operands l.i l.c l.used

abbrev pub decreases-loop-i : goal.decreases-loop-i
decreases-loop-i l = length l.s - l.i
