use Rattle.std.proofs.Common.{arith, ◌+◌, ◌-◌}
use Rattle.index.specs.Indexed.{right-none, right-more, right-all}
use Rattle.index.proofs.rows.put_all_right.Goals as goal

pub loop-x-init : goal.loop-x-init
loop-x-init c = let a = c.args in right-none a.gains.now a.blocks.now a.n a.k a.index.now

pub is_right-requires : goal.is_right-requires
is_right-requires c =
    let l = c.loop-x in
    (record { x-to = omega arith; k-to = c.requires.k-to; in-index = omega (arith, l.invariant.kept.len, c.requires.in-index); in-gains = omega (arith, c.requires.in-gains) }, omega (arith, c.requires.in_blocks), c.requires.blocks_to l.x (omega arith))

pub set_row-requires : goal.set_row-requires
set_row-requires c =
    let l = c.loop-x in
    (record { x-to = omega arith; k-to = c.requires.k-to; in-index = omega (arith, l.invariant.kept.len, c.requires.in-index); in-gains = omega (arith, c.requires.in-gains) }, omega (arith, c.requires.in_blocks), c.requires.blocks_to l.x (omega arith))

pub loop-x-preserved : goal.loop-x-preserved
loop-x-preserved c =
    let a = c.args in
    right-more a.gains.now a.blocks.now a.n a.k a.index.now c.requires.k-to _ _ c.loop-x.x (omega arith) c.loop-x.invariant c.set_row.ensures

pub shape_of-index : goal.shape_of-index
shape_of-index c = c.loop-x.invariant.kept.len

pub returns : goal.returns
returns c =
    let a = c.args in
    right-all a.gains.now a.blocks.now a.n a.k a.index.now _ c.loop-x.x (omega arith) c.loop-x.invariant
