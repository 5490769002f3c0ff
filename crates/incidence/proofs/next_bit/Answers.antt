-- `next_bit`: the rest of the word is 0, or its lowest set bit is the next one.
use Rattle.std.proofs.Common.{arith}
use Rattle.incidence.specs.Word.{next-bit-none, next-bit-zero, next-bit-small, next-bit-some}
use Rattle.incidence.proofs.next_bit.Goals as goal

pub returns-then-from-eq64 : goal.returns-then-from-eq64
returns-then-from-eq64 c = next-bit-none c.args.word c.args.from (omega arith) (λ j a b. absurd (omega arith))

pub returns-then-rest-eq0 : goal.returns-then-rest-eq0
returns-then-rest-eq0 c = let a = c.args in next-bit-zero a.word a.from (omega arith) c.if-rest-eq0.true

pub overflow_add-result : goal.overflow_add-result
overflow_add-result c =
    omega (arith, next-bit-small c.args.word c.args.from c.lowest.result c.ranges.word.fits c.lowest.ensures)

pub returns : goal.returns
returns c =
    next-bit-some c.args.word c.args.from c.lowest.result c.ranges.word.fits c.lowest.ensures
