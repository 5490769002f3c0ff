use Rattle.std.proofs.Common.{arith, ◌≡◌, ap, ℕ, ◌-◌, ◌≤◌}
use Rattle.near_rows.specs.Near.{row-asks, mended-none, mended-then, mended-row, pins-none, pins-more}
use Rattle.near_rows.proofs.near.put_pins_right.Goals as goal

pub loop-j-init : goal.loop-j-init
loop-j-init c =
    let a = c.args in
    (mended-none a.index.now, pins-none a.gains.now a.blocks.now a.k a.presentpins.now a.first a.index.now)

pub overflow_add-first : goal.overflow_add-first
overflow_add-first c =
    omega (arith, c.requires.1.fit)

pub bounds-presentpins-first : goal.bounds-presentpins-first
bounds-presentpins-first c =
    omega (arith, c.requires.1.fit)

pub overflow_sub-from : goal.overflow_sub-from
overflow_sub-from c =
    omega (arith, c.from.ensures, c.requires.1.vertices c.loop-j.j (omega arith))

pub put_right-requires : goal.put_right-requires
put_right-requires c =
    let v = c.requires.1.vertices c.loop-j.j (omega arith) in
    row-asks c.requires.0 c.loop-j.invariant.0.kept.len (c.from.result - 1) (omega (arith, c.from.ensures, v))

pub loop-j-preserved : goal.loop-j-preserved
loop-j-preserved c =
    let a = c.args in
    let l = c.loop-j in
    let x : ℕ = c.from.result - 1 in
    let v = c.requires.1.vertices l.j (omega arith) in
    let put = c.put_right.ensures in
    let row = mended-row {n = a.n} x c.requires.0.k-to (omega (arith, c.from.ensures, v)) put in (mended-then l.invariant.0 row, pins-more a.gains.now a.blocks.now a.k a.presentpins.now a.first l.j x (ap (λ (z : ℕ). z - 1) c.from.ensures) row l.invariant.1 put.here)

pub shape_of-index : goal.shape_of-index
shape_of-index c = c.loop-j.invariant.0.kept.len

pub returns : goal.returns
returns c =
    let e : c.loop-j.j ≡ c.args.size = omega arith in
    (c.loop-j.invariant.0, rw e at c.loop-j.invariant.1)
