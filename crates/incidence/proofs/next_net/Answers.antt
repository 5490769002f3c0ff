-- `next_net`: in the rest of the word, or in the words behind it.
use Rattle.std.proofs.Common.{arith, refl, ◌+◌, ◌*◌, ◌/◌, ◌%◌, ◌≡◌}
use Rattle.incidence.specs.On.{next-none, clear-rest, stop-in}
use Rattle.incidence.proofs.next_net.Goals as goal

pub returns-then-from-m : goal.returns-then-from-m
returns-then-from-m c =
    next-none c.args.bits.now c.args.x c.args.from c.args.from c.args.m (omega arith) (omega arith) (λ e h g. absurd (omega arith))

pub returns-then-rest-ne0 : goal.returns-then-rest-ne0
returns-then-rest-ne0 c =
    let a = c.args in
    (stop-in a.bits.now a.x a.from (a.from / 64) (a.from % 64) a.from _ a.m _ _ (omega arith) c.requires.1 (omega arith) (λ e h g. absurd (omega arith)) (omega arith) refl (omega arith) c.stop_in.ensures).next

pub returns : goal.returns
returns c =
    let a = c.args in
    let q : (a.from / 64 + 1) * 64 ≡ 64 * (a.from / 64 + 1) = omega arith in
    (c.stop_from.ensures a.from c.requires.1 (omega arith) (rw q at (clear-rest a.bits.now a.x a.from c.if-rest-ne0.false))).next
