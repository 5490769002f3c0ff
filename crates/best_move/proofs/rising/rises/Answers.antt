-- `rises`: the blocks in use are among those tested.
use Rattle.std.proofs.Common.{arith, subst, ℤ}
use Rattle.laws.specs.Integer.{read32}
use Rattle.best_move.specs.Rising.{NotBetter}
use Rattle.best_move.specs.RisingLaw.{not-better-peak}
use Rattle.best_move.proofs.rising.rises.Goals as goal

pub returns-then-k-le4 : goal.returns-then-k-le4
returns-then-k-le4 c =
    let a = c.args in
    λ e j l. subst (λ (z : ℤ). NotBetter a.gains.now a.rooms.now a.row z a.weight a.own j) (read32 a.low c.ranges.low.sfits) (c.four_rise.ensures e j (omega arith) (omega arith))

pub returns-then-peak-low : goal.returns-then-peak-low
returns-then-peak-low c =
    let a = c.args in
    λ e j l. not-better-peak a.gains.now a.rooms.now a.row a.low a.peak a.weight a.own j c.ranges.peak.sfits c.ranges.weight.fits (read32 a.low c.ranges.low.sfits) (read32 a.peak c.ranges.peak.sfits) c.if-peak-low.true (c.requires.2 j l)

pub returns : goal.returns
returns c =
    let a = c.args in
    λ e j l. subst (λ (z : ℤ). NotBetter a.gains.now a.rooms.now a.row z a.weight a.own j) (read32 a.low c.ranges.low.sfits) (c.any_rises.ensures e j (omega arith))
