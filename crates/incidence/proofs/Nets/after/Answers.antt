use Rattle.std.proofs.Common.{arith, ◌+◌, ◌*◌, ◌/◌, ◌%◌}
use Rattle.incidence.specs.On.{stop-in, clear-above}
use Rattle.incidence.proofs.Nets.after.Goals as goal

pub returns-then-self-eq0 : goal.returns-then-self-eq0
returns-then-self-eq0 c =
    let s = c.args.self.now in
    c.stop_from.ensures (s.at + 1) (omega arith) (omega arith) (clear-above s.bits.now s.x s.at s.rest (s.in_row.above c.requires) c.if-self-eq0.true)

pub returns : goal.returns
returns c =
    let s = c.args.self.now in
    stop-in s.bits.now s.x (s.at + 1) (s.at / 64) (s.at % 64 + 1) (s.at + 1) s.rest s.m _ _ (omega arith) (omega arith) (omega arith) (λ e h g. absurd (omega arith)) (s.in_row.above c.requires).0 (s.in_row.above c.requires).1 (omega arith) c.stop_in.ensures
