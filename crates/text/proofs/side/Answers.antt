-- `text::side` meets its contract.
use Rattle.std.proofs.Common.{arith, sym}
use Rattle.text.proofs.Signs.{below, above}
use Rattle.text.proofs.side.Goals as goal

pub overflow_sub-m : goal.overflow_sub-m
overflow_sub-m c = let b = below c.args.x c.ranges.x c.if-x-lt0.true in b.fits

pub overflow_cast-m : goal.overflow_cast-m
overflow_cast-m c = let b = below c.args.x c.ranges.x c.if-x-lt0.true in rw b.is (tt, record { fits = omega arith })

pub overflow_add-result : goal.overflow_add-result
overflow_add-result c = let b = below c.args.x c.ranges.x c.if-x-lt0.true in rw b.is (record { fits = omega arith })

pub returns-then-x-lt0 : goal.returns-then-x-lt0
returns-then-x-lt0 c = let b = below c.args.x c.ranges.x c.if-x-lt0.true in rw b.is (sym b.sign)

pub overflow_cast-result : goal.overflow_cast-result
overflow_cast-result c = let b = above c.args.x c.ranges.x c.if-x-lt0.false in rw b.is (tt, record { fits = omega arith })

pub returns : goal.returns
returns c = let b = above c.args.x c.ranges.x c.if-x-lt0.false in rw b.is (sym b.sign)
