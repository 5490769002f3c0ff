-- `spaced::digits_word` meets its contract.
use Rattle.std.proofs.Common.{arith}
use Rattle.spaced.proofs.Digits.{digits-none, digits-zero, digits-here}
use Rattle.spaced.proofs.digits_word.Goals as goal
use Rattle.spaced.proofs.digits_word.Goals.{else-s-at-eq48-via-then-s-at-eq48+else-end-at-gt1, else-s-at-eq48-via-else-s-at-eq48}

pub returns-then-at-end : goal.returns-then-at-end
returns-then-at-end c =
    let a = c.args in λ to read. digits-none a.s.now a.at to a.end a.v (omega arith) read c.if-at-end.true

pub returns-then-end-at-gt1 : goal.returns-then-end-at-gt1
returns-then-end-at-gt1 c =
    let a = c.args in λ to read. digits-zero a.s.now a.at to a.end a.v (omega arith) read (omega arith) (omega arith)

pub returns : goal.returns
returns c =
    let a = c.args in λ to read. digits-here a.s.now a.at to a.end a.v (omega arith) read c.if-at-end.false (λ more zero. elim c.else-s-at-eq48.branch [ else-s-at-eq48-via-then-s-at-eq48+else-end-at-gt1 w ↦ omega (arith, w.if-end-at-gt1.false) | else-s-at-eq48-via-else-s-at-eq48 w ↦ w.if-s-at-eq48.false zero ])
