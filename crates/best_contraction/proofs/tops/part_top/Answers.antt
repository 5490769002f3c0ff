use Rattle.std.proofs.Common.{arith, ◌+◌, ◌-◌, ◌*◌, ◌/◌, ◌≡◌}
use Rattle.best_contraction.specs.PartTop.{larger-max, top-none, top-join}
use Rattle.best_contraction.proofs.tops.part_top.Goals as goal

pub loop-i-init : goal.loop-i-init
loop-i-init c =
    let e : c.args.from + 0 ≡ c.args.from = omega arith in
    rw e (top-none c.args.bounds.now c.args.from)

pub loop-i-preserved : goal.loop-i-preserved
loop-i-preserved c =
    let l = c.loop-i in
    let a = c.args in
    let e : a.from + 4 * l.i + 4 ≡ a.from + 4 * (l.i + 1) = omega arith in
    rw e at (top-join a.bounds.now a.from (a.from + 4 * l.i) (a.from + 4 * l.i + 4) _ _ _ (omega arith) (omega arith) l.invariant c.four_top.ensures (larger-max _ _ _ c.max-top.ensures))

pub returns : goal.returns
returns c =
    let l = c.loop-i in
    let a = c.args in
    let e : l.i ≡ (a.to - a.from) / 4 = omega arith in
    top-join a.bounds.now a.from _ a.to _ _ _ (omega arith) (omega arith) (rw e at l.invariant) c.rest_top.ensures (larger-max _ _ _ c.max.ensures)
