-- `spaced::check_edge` meets its contract.
use Rattle.std.proofs.Common.{refl}
use Rattle.spaced.proofs.Edges.{edge-good}
use Rattle.spaced.proofs.check_edge.Goals as goal

pub returns : goal.returns
returns c =
    let a = c.args in edge-good a.s.now a.at a.end a.weighted c.in_ok-x.x.weight c.in_ok-x.x.first c.in_ok-x.ensures a.vertices a.j _ _ _ _ c.in_ok-r.ensures c.between.result c.between.ensures _ refl c.width.result c.width.ensures.0 c.width.ensures.1
