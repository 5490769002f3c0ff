use Rattle.std.proofs.Common.{◌≤◌, ◌-◌, ◌*◌, arith, refl}
use Rattle.laws.specs.Integer.{read32, add-at-fits}
use Rattle.connectivity.specs.Raised.{raised-none, raised-set, raised-next, raised-done}
use Rattle.connectivity.specs.Moved.{raised-level}
use Rattle.connectivity.proofs.add_row.Goals as goal

pub loop-j-init : goal.loop-j-init
loop-j-init c = (omega arith, raised-none _)

pub add_at-requires : goal.add_at-requires
add_at-requires c =
    record { i_in_bounds = omega (arith, c.requires, c.loop-j.invariant.1.len); sfits = add-at-fits _ c.args.d _ c.args.d c.ranges.d.sfits (raised-next c.loop-j.invariant.1) refl (omega (arith, c.requires, c.requires.small c.loop-j.j c.loop-j-test.true)) }

pub loop-j-preserved : goal.loop-j-preserved
loop-j-preserved c =
    (omega arith, raised-set c.loop-j.invariant.1 (omega (arith, c.requires)) refl c.add_at.ensures)

pub shape_of-gains : goal.shape_of-gains
shape_of-gains c = c.loop-j.invariant.1.len

pub returns : goal.returns
returns c = raised-level (read32 _ c.ranges.d.sfits) (raised-done (omega arith) c.loop-j.invariant.1)
