use Rattle.std.proofs.Common.{◌-◌, ◌≤◌, arith, ◌≡◌}
use Rattle.coarsening.specs.Coarsen.{board-none, board-more, board-all, placed-as}
use Rattle.coarsening.proofs.on_board.Goals as goal

pub loop-i-init : goal.loop-i-init
loop-i-init c = (board-none _, omega arith)

pub loop-i-preserved : goal.loop-i-preserved
loop-i-preserved c =
    let v = c.loop-i.invariant in
    let one = placed-as _ c.from-board.ensures in
    (board-more _ _ _ _ v.0 one.0, omega (arith, v, one.1))

pub returns : goal.returns
returns c = board-all _ _ _ _ (omega arith) c.requires.0 c.loop-i.invariant.0
