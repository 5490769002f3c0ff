use Rattle.std.proofs.Common.{ℕ, ap, ◌∙◌, arith}
use Rattle.std.proofs.Math.Seq.{slice}
use Rattle.model.specs.Hmetis.{words}
use Rattle.spaced.proofs.Words.{later-space, later-word, later-end}
use Rattle.spaced.proofs.skip.Goals as goal

pub returns-then-s-i-ne32 : goal.returns-then-s-i-ne32
returns-then-s-i-ne32 c =
    let a = c.args in
    let l = c.loop-i in
    record { low = omega arith; high = omega arith; is = l.invariant.2 ∙ later-word a.s.now l.i a.end (omega arith) (omega arith) (omega arith) c.if-s-i-ne32.true }

pub loop-i-preserved : goal.loop-i-preserved
loop-i-preserved c =
    let a = c.args in
    let l = c.loop-i in
    (omega arith, omega arith, l.invariant.2 ∙ later-space a.s.now l.i a.end (omega arith) (omega arith) (omega arith) (omega arith))

pub returns : goal.returns
returns c =
    let a = c.args in
    let l = c.loop-i in
    record { low = omega arith; high = omega arith; is = l.invariant.2 ∙ later-end a.s.now l.i a.end (omega arith) (omega arith) (omega arith) ∙ ap (λ (k : ℕ). words (slice k a.end a.s.now)) (omega arith) }
