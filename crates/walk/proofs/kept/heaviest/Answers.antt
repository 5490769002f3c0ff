use Rattle.std.proofs.Common.{arith, ◌≡◌, refl, ap, ◌∙◌, ◌≤◌, ◌-◌}
use Rattle.walk.specs.Kept.{heaviest_in, heaviest-none, heaviest-more}
use Rattle.walk.proofs.kept.heaviest.Goals as goal

pub loop-j-init : goal.loop-j-init
loop-j-init c = heaviest-none c.args.loads.now

pub loop-j-preserved : goal.loop-j-preserved
loop-j-preserved c =
    heaviest-more c.args.loads.now c.loop-j.j _ _ _ c.loop-j.invariant refl c.max-most.ensures

pub returns : goal.returns
returns c =
    let e : c.loop-j.j ≡ c.args.k = omega arith in
    c.loop-j.invariant ∙ ap (heaviest_in c.args.loads.now) e
