use Rattle.std.proofs.Common.{◌≤◌, ◌-◌, arith}
use Rattle.first_tables.specs.Fill.{filling-none, filling-net, filling-more, filling-done}
use Rattle.first_tables.proofs.fill.Goals as goal

pub loop-e-init : goal.loop-e-init
loop-e-init c =
    (omega arith, filling-none c.requires)

pub bounds-firsts-e : goal.bounds-firsts-e
bounds-firsts-e c =
    omega (arith, c.requires.lists.firsts-fit)

pub bounds-presentsizes-e : goal.bounds-presentsizes-e
bounds-presentsizes-e c =
    omega (arith, c.requires.lists.sizes-fit)

pub fill_net-requires : goal.fill_net-requires
fill_net-requires c =
    filling-net c.requires c.loop-e-test.true c.loop-e.invariant.1 c.from-first.ensures c.from-p.ensures

pub loop-e-preserved : goal.loop-e-preserved
loop-e-preserved c =
    (omega (arith, c.loop-e-test.true), filling-more c.requires c.loop-e-test.true c.loop-e.invariant.1 c.from-first.ensures c.from-p.ensures c.fill_net.ensures)

pub shape_of-counts : goal.shape_of-counts
shape_of-counts c = c.loop-e.invariant.1.kept.of-tally.counts-len

pub shape_of-visited : goal.shape_of-visited
shape_of-visited c = c.loop-e.invariant.1.kept.of-tally.masks-len

pub shape_of-gains : goal.shape_of-gains
shape_of-gains c = c.loop-e.invariant.1.kept.of-gains.gains-len

pub shape_of-bits : goal.shape_of-bits
shape_of-bits c = c.loop-e.invariant.1.bits-len

pub returns : goal.returns
returns c =
    filling-done c.requires (omega arith) c.loop-e.invariant.1
