-- `join_blocks`: entry by entry.
use Rattle.std.proofs.Common.{◌-◌, ◌≤◌, ◌≡◌, eqb}
use Rattle.incidence.specs.On.{on}
use Rattle.coarsening.specs.Own.{OwnBlocks}
use Rattle.coarsening.proofs.join_blocks.Given as goal

abbrev pub invariant-loop-i : goal.invariant-loop-i
invariant-loop-i l = OwnBlocks (λ y. eqb (on l.fixedmarks 1 y) 1) l.blocks l.i l.joinblocks
