-- `text::read_number` meets its contract: a test that fails is why the field is no number.
use Rattle.std.proofs.Common.{arith}
use Rattle.text.proofs.Walk.{first-here, first-none}
use Rattle.text.proofs.Numbers.{number-zero, number-empty, number-other, number-here}
use Rattle.text.proofs.read_number.Goals.{else-e-at-gt1-via-then-e-at-gt1+else-s-at-eq48, else-e-at-gt1-via-else-e-at-gt1, else-e-end-via-then-e-end+else-s-e-ne44, else-e-end-via-else-e-end}
use Rattle.text.proofs.read_number.Goals as goal

pub read_digits-d-requires : goal.read_digits-d-requires
read_digits-d-requires c = let n = c.nine_digits-stop.ensures in (n.low, omega (arith, n.high), n.short)

pub returns-then-e-at : goal.returns-then-e-at
returns-then-e-at c =
    let a = c.args in
    let n = c.nine_digits-stop in
    let d = c.read_digits-d in
    number-empty a.s.now a.at a.end n.result d.result.value d.result.end (omega arith) n.ensures d.ensures c.if-e-at.true

pub overflow_sub-e : goal.overflow_sub-e
overflow_sub-e c = omega (arith, c.read_digits-d.ensures.low)

pub bounds-s-at : goal.bounds-s-at
bounds-s-at c =
    omega (arith, c.read_digits-d.ensures.high, c.nine_digits-stop.ensures.high)

pub returns-then-s-at-eq48 : goal.returns-then-s-at-eq48
returns-then-s-at-eq48 c =
    let a = c.args in
    let n = c.nine_digits-stop in
    let d = c.read_digits-d in
    number-zero a.s.now a.at a.end n.result d.result.value d.result.end (omega arith) n.ensures d.ensures (omega arith) c.if-s-at-eq48.true

pub returns-then-s-e-ne44 : goal.returns-then-s-e-ne44
returns-then-s-e-ne44 c =
    let a = c.args in
    let n = c.nine_digits-stop in
    let d = c.read_digits-d in
    number-other a.s.now a.at a.end n.result d.result.value d.result.end (omega arith) n.ensures d.ensures (omega arith) c.if-s-e-ne44.true

pub returns : goal.returns
returns c =
    let a = c.args in
    let n = c.nine_digits-stop in
    let d = c.read_digits-d in (
      omega (arith, d.ensures.low),
      number-here a.s.now a.at a.end n.result d.result.value d.result.end (omega arith) n.ensures d.ensures
          (λ more zero. elim c.else-e-at-gt1.branch [ else-e-at-gt1-via-then-e-at-gt1+else-s-at-eq48 w ↦ w.if-s-at-eq48.false zero | else-e-at-gt1-via-else-e-at-gt1 w ↦ omega arith ])
          (elim c.else-e-end.branch [
            | else-e-end-via-then-e-end+else-s-e-ne44 w ↦ first-here a.s.now d.result.end a.end (omega arith) (omega arith) 44 w.if-s-e-ne44.false
            | else-e-end-via-else-e-end w ↦ first-none a.s.now d.result.end a.end 44 (omega (arith, d.ensures.high, n.ensures.high))
          ]),
    )
