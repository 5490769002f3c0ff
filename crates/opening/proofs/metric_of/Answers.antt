use Rattle.std.proofs.Common.{arith, ◌≡◌, sym, ◌∙◌, ap, ◌≤◌, ◌-◌}
use Rattle.laws.specs.Sum.{sum-zero}
use Rattle.opening.specs.Opening.{metric_by, metric-more, metric-le}
use Rattle.opening.proofs.metric_of.Goals as goal

pub loop-e-init : goal.loop-e-init
loop-e-init c = (omega arith, sym (sum-zero _))

pub cost-t-requires : goal.cost-t-requires
cost-t-requires c =
    c.requires.light c.loop-e.e (omega arith)

pub overflow_add-t : goal.overflow_add-t
overflow_add-t c =
    record { fits = omega (arith, c.cost-t.ensures.1, c.loop-e.invariant.1, metric-le c.args.visited.now c.args.netweights.now c.loop-e.e c.args.m (omega arith) c.requires, c.requires.few) }

pub loop-e-preserved : goal.loop-e-preserved
loop-e-preserved c =
    (omega arith, metric-more c.args.visited.now c.args.netweights.now c.loop-e.e c.loop-e.t c.cost-t.result c.loop-e.invariant.1 c.cost-t.ensures.0)

pub returns : goal.returns
returns c =
    let q : c.loop-e.e ≡ c.args.m = omega arith in c.loop-e.invariant.1 ∙ ap (metric_by c.args.visited.now c.args.netweights.now) q
