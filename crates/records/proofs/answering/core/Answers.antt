-- `records::answering::core` meets its contract: too few records are 8; else the engine's promise on its own four tables, carried over to the records. Assumes nothing.
use Rattle.std.proofs.Common.{arith, ℕ, ◌≤◌, List, length, replicate}
use Rattle.std.proofs.lemmas.List.{length-replicate}
use Rattle.lines.specs.Line.{limits_of}
use Rattle.model.specs.Memory.{long_memory}
use Rattle.guarantees.specs.Promises.{file-serves}
use Rattle.records.specs.Lent.{no_room, serves-records}
use Rattle.model.specs.Lent.{others, in_tables}
use Rattle.records.specs.Entry.{lots-few}
use Rattle.records.proofs.answering.core.Goals as goal

pub returns-then-room-least : goal.returns-then-room-least
returns-then-room-least c =
    let a = c.args in
    rw c.number.ensures (record { fits = omega arith; small = omega arith; serves = λ lots e. file-serves (limits_of a.limits) c.requires.few c.requires.sessions-few a.file.now _ _ _ _ (no_room (limits_of a.limits) a.file.now a.output.now lots (others a.loadedpins.now a.presentpins.now a.firsts.now a.loadedsizes.now a.presentsizes.now a.counts.now a.gains.now a.index.now a.visited.now) (omega (arith, e, c.if-room-least.true))) })

pub returns : goal.returns
returns c =
    let a = c.args in
    let told = c.serve-served.ensures in
    let last = c.serve-served.new in
    let zeros : List ℕ = replicate 1024 0 in
    let long : a.limits.lots ≤ length zeros = omega (arith, length-replicate {A = ℕ} 1024 0, c.requires.lots-few) in
    let room : a.limits.lots ≤ a.room = c.if-room-least.false in
    let few : c.serve-served.result.lots ≤ a.limits.lots = omega (arith, told.lots-are, lots-few (limits_of a.limits) c.requires.few a.file.now (long_memory (limits_of a.limits) (in_tables a.output.now zeros zeros zeros zeros (others a.loadedpins.now a.presentpins.now a.firsts.now a.loadedsizes.now a.presentsizes.now a.counts.now a.gains.now a.index.now a.visited.now)))) in
    record {
      fits = omega (arith, few, room);
      small = omega (arith, few, c.requires.lots-few);
      serves = λ lots e. file-serves (limits_of a.limits) c.requires.few c.requires.sessions-few a.file.now _ _ _ _ (serves-records (limits_of a.limits) a.file.now a.output.now last.output zeros zeros zeros zeros last.weights last.blocks last.aboves last.fixed
          (others a.loadedpins.now a.presentpins.now a.firsts.now a.loadedsizes.now a.presentsizes.now a.counts.now a.gains.now a.index.now a.visited.now) (others last.loadedpins last.presentpins last.firsts last.loadedsizes last.presentsizes last.counts last.gains last.index last.visited) c.gather-lots.result lots c.serve-served.result.lots _ _
          long long long long (omega (arith, e, room)) few c.gather-lots.ensures told.lots-are told.serves);
    }
