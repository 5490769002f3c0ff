use Rattle.std.proofs.Common.{arith, subst, ℕ, refl, ltb, get_or}
use Rattle.model.specs.Memory.{Filled}
use Rattle.loader.proofs.Fill.{filled_none, filled_more}
use Rattle.loader.proofs.copy.Goals as goal

pub loop-i-init : goal.loop-i-init
loop-i-init c = (omega arith, filled_none (λ x. get_or c.args.from.now x 0) c.args.to.now)

pub bounds-to-i : goal.bounds-to-i
bounds-to-i c = omega (arith, c.loop-i.invariant.1.as_long)

pub loop-i-preserved : goal.loop-i-preserved
loop-i-preserved c =
    let l = c.loop-i in let a = c.args in (omega arith, filled_more l.i (get_or a.from.now l.i 0) (λ x. get_or a.from.now x 0) a.to.now l.to l.invariant.1 (omega arith) refl)

pub shape_of-to : goal.shape_of-to
shape_of-to c = c.loop-i.invariant.1.as_long

pub returns : goal.returns
returns c = let l = c.loop-i in let a = c.args in subst (λ (n : ℕ). Filled 0 (λ x. ltb x n) (λ x. get_or a.from.now x 0) a.to.now l.to) (omega arith) l.invariant.1
