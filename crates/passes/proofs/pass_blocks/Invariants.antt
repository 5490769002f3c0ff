-- `passes::pass_blocks` meets its contract. The invariant: k blocks are passed over and in the table, and the others are still to be read.
use Rattle.std.proofs.Common.{◌-◌, length}
use Rattle.passes.proofs.Tables.{OnBlocks}
use Rattle.passes.proofs.pass_blocks.Given as goal

abbrev pub invariant-loop-i : goal.invariant-loop-i
invariant-loop-i l = OnBlocks l.s l.at l.blocks l.draft l.i l.k l.good

abbrev pub decreases-loop-i : goal.decreases-loop-i
decreases-loop-i l = length l.s - l.i
