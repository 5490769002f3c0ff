-- `hall_records::answering::core` meets its contract: too few records are 8; else the hall's promise on columns of its own, carried over to the records. Assumes nothing.
use Rattle.std.proofs.Common.{refl}
use Rattle.model.specs.HallLent.{hall_others}
use Rattle.hall_records.specs.Entry.{short-answers, long-answers}
use Rattle.hall_records.proofs.answering.core.Goals as goal

pub returns-then-room-lt4096 : goal.returns-then-room-lt4096
returns-then-room-lt4096 c =
    let a = c.args in
    short-answers a.file.now a.output.now a.room (hall_others a.loadedpins.now a.presentpins.now a.firsts.now a.loadedsizes.now a.presentsizes.now a.counts.now a.gains.now a.index.now a.visited.now) _ c.if-room-lt4096.true refl c.number.ensures refl

pub returns : goal.returns
returns c =
    let a = c.args in
    let told = c.serve_hall-served.ensures in
    let ran = c.serve_hall-served.result in
    let last = c.serve_hall-served.new in
    long-answers a.file.now a.output.now last.output a.room last.weights last.blocks last.aboves last.fixed
    (hall_others a.loadedpins.now a.presentpins.now a.firsts.now a.loadedsizes.now a.presentsizes.now a.counts.now a.gains.now a.index.now a.visited.now)
    (hall_others last.loadedpins last.presentpins last.firsts last.loadedsizes last.presentsizes last.counts last.gains last.index last.visited)
    ran.lots ran.code ran.written c.gather.result c.if-room-lt4096.false c.gather.ensures told.lots-are told.serves
