use Rattle.std.proofs.Common.{ℕ, ◌≤◌, ◌-◌, ◌*◌, pos, arith, ap}
use Rattle.connectivity.specs.Raised.{raised-none, raised-next, raised-set, raised-done}
use Rattle.connectivity.specs.Laid.{signed}
use Rattle.connectivity.specs.Touch.{amount-is}
use Rattle.connectivity.proofs.but_row.Goals as goal

pub loop-j-init : goal.loop-j-init
loop-j-init c = (omega arith, raised-none _)

pub amount-d-requires : goal.amount-d-requires
amount-d-requires c = omega (arith, c.requires.few)

pub shift_at-requires : goal.shift_at-requires
shift_at-requires c =
    record { i_in_bounds = omega (arith, c.requires.fit, c.requires.few, c.loop-j.invariant.1.len); i_bound = rw (raised-next c.loop-j.invariant.1) (c.requires.small c.loop-j.j c.loop-j-test.true) }

pub loop-j-preserved : goal.loop-j-preserved
loop-j-preserved c =
    let a = c.args in (
      omega arith,
      raised-set c.loop-j.invariant.1 (omega (arith, c.requires.fit, c.requires.few))
          (ap (λ (z : ℕ). signed a.take (pos z)) (amount-is a.a a.w c.loop-j.j c.amount-d.result c.amount-d.ensures)) c.shift_at.ensures,
    )

pub shape_of-gains : goal.shape_of-gains
shape_of-gains c = c.loop-j.invariant.1.len

pub returns : goal.returns
returns c = raised-done (omega arith) c.loop-j.invariant.1
