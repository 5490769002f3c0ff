use Rattle.std.proofs.Common.{arith, sym, div-one, ◌*◌, ◌+◌, ◌≡◌}
use Rattle.incidence.specs.On.{clear-word, stop-in}
use Rattle.incidence.proofs.stop_from.Goals as goal

pub returns-then-word-ne0 : goal.returns-then-word-ne0
returns-then-word-ne0 c = λ from le low clear.
    let a = c.args in
    let w = c.loop-w.w in
    stop-in a.bits.now a.x from w 0 (64 * w) _ a.m _ _ (omega arith) le (omega arith) (c.loop-w.invariant from low clear) (omega arith) (sym (div-one _)) (omega arith) c.stop_in.ensures

pub loop-w-preserved : goal.loop-w-preserved
loop-w-preserved c = λ from low clear.
    let a = c.args in
    let w = c.loop-w.w in
    let p : 64 * w ≡ w * 64 = omega arith in
    let q : (w + 1) * 64 ≡ 64 * (w + 1) = omega arith in
    rw q at (clear-word a.bits.now a.x from w (rw p at (c.loop-w.invariant from low clear)) c.if-word-ne0.false)
