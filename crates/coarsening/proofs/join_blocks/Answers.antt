use Rattle.std.proofs.Common.{◌-◌, ◌≤◌, arith, ◌≡◌}
use Rattle.coarsening.specs.Own.{own-none, own-more, own-all}
use Rattle.coarsening.proofs.join_blocks.Goals as goal

pub loop-i-init : goal.loop-i-init
loop-i-init c = own-none _ _

pub is_pin-requires : goal.is_pin-requires
is_pin-requires c = omega (arith, c.requires)

pub bounds-joinblocks-i : goal.bounds-joinblocks-i
bounds-joinblocks-i c = omega (arith, c.requires)

pub loop-i-preserved : goal.loop-i-preserved
loop-i-preserved c =
    own-more _ _ _ _ _ _ (omega (arith, c.requires)) c.join_block.ensures c.is_pin.ensures c.loop-i.invariant

pub returns : goal.returns
returns c = own-all _ _ (omega arith) c.loop-i.invariant
