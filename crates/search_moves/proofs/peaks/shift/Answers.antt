use Rattle.std.proofs.Common.{arith}
use Rattle.search_moves.specs.Peaks.{peaked-move}
use Rattle.search_moves.specs.Lifting.{lift-asks}
use Rattle.search_moves.proofs.peaks.shift.Goals as goal

pub lift-requires : goal.lift-requires
lift-requires c =
    let start = c.requires in
    let goes = start.can_go.goes in
    (start.peaked.len, lift-asks goes.sound goes.open-pair (omega (arith, c.transfer-after.auto)) (omega (arith, c.transfer-after.auto)) (omega (arith, c.transfer-after.auto)))

pub returns : goal.returns
returns c =
    let start = c.requires in
    let goes = start.can_go.goes in
    let went = c.transfer-after.ensures in record { by_index = went; peaked_2 = peaked-move goes.sound goes.open-pair ((went start.can_go.aboves start.can_go.loaded).sound goes.h goes.cs goes.block goes.sound) start.peaked c.lift.ensures }
