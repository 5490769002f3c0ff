use Rattle.std.proofs.Common.{◌≤◌, ◌-◌, arith}
use Rattle.connectivity.specs.Touch.{pin-in, column-start, column-done, column-skip, column-small, column-more}
use Rattle.connectivity.proofs.shift_column.Goals.{then-q-x, else-q-x}
use Rattle.connectivity.proofs.shift_column.Goals as goal

pub loop-i-init : goal.loop-i-init
loop-i-init c =
    let a = c.args in
    (omega arith, column-start c.requires.rows a.x a.take a.a)

pub overflow_add-first : goal.overflow_add-first
overflow_add-first c =
    omega (arith, c.requires.rows.net.pins-fit)

pub bounds-pins-first : goal.bounds-pins-first
bounds-pins-first c =
    omega (arith, c.requires.rows.net.pins-fit)

pub overflow_sub-q : goal.overflow_sub-q
overflow_sub-q c =
    omega (arith, pin-in c.requires.rows c.loop-i-test.true c.from-q.ensures)

pub overflow_mul-q : goal.overflow_mul-q
overflow_mul-q c =
    omega (arith, pin-in c.requires.rows c.loop-i-test.true c.from-q.ensures)

pub overflow_add-q : goal.overflow_add-q
overflow_add-q c =
    omega (arith, pin-in c.requires.rows c.loop-i-test.true c.from-q.ensures, c.requires.rows.few, c.requires.le_a)

pub shift_at-requires : goal.shift_at-requires
shift_at-requires c =
    let a = c.args in
    let h : 1 ≤ a.a = c.requires.le_a.0 in record { i_in_bounds = omega (arith, pin-in c.requires.rows c.loop-i-test.true c.from-q.ensures, c.requires.rows.few, c.requires.le_a, c.loop-i.invariant.1.len); i_bound = column-small c.requires.rows a.x a.take a.a c.loop-i-test.true c.from-q.ensures c.loop-i.invariant.1 c.if-q-x.true (omega (arith, c.requires.le_a)) }

pub loop-i-preserved : goal.loop-i-preserved
loop-i-preserved c =
    let a = c.args in
    elim c.if-q-x.branch [
      | then-q-x v ↦ (omega arith, rw v.gains-is (column-more c.requires.rows a.x a.take a.a c.loop-i-test.true c.from-q.ensures c.loop-i.invariant.1 v.if-q-x.true c.requires.le_a.0 c.requires.le_a.1 v.shift_at.ensures))
      | else-q-x v ↦ (omega arith, rw v.gains-is (column-skip c.requires.rows a.x a.take a.a c.loop-i-test.true c.from-q.ensures c.loop-i.invariant.1 v.if-q-x.false))
    ]

pub shape_of-gains : goal.shape_of-gains
shape_of-gains c = c.loop-i.invariant.1.len

pub returns : goal.returns
returns c =
    let a = c.args in
    column-done c.requires.rows a.x a.take a.a (omega arith) c.loop-i.invariant.1
