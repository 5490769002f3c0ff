-- `descend`: from the empty stack to the coarsest level, and back.
use Rattle.std.proofs.Common.{arith, refl}
use Rattle.cycle.specs.Refine.{stack-to}
use Rattle.cycle.specs.Whole.{coarsen-asks, refine-asks, levels}
use Rattle.cycle.proofs.whole.descend.Goals as goal

pub coarsen-stack-requires : goal.coarsen-stack-requires
coarsen-stack-requires c =
    coarsen-asks _ _ _ c.requires.cycle_ok c.new.ensures.0 c.new.ensures.1 c.new.ensures.2

pub refine-f-requires : goal.refine-f-requires
refine-f-requires c =
    record { refine_ok = refine-asks c.requires.cycle_ok c.new.ensures.0 c.new.ensures.1 c.new.ensures.2 (c.coarsen-stack.ensures _ _); n_in_bounds = c.requires.n_in_bounds }

pub returns : goal.returns
returns c =
    record { levels = levels refl refl refl refl refl c.new.ensures.0 c.new.ensures.1 c.new.ensures.2 (c.coarsen-stack.ensures _ _) c.refine-f.ensures.refines refl; kept = c.refine-f.ensures.kept }

pub overflow_cast-result : goal.overflow_cast-result
overflow_cast-result c =
    record { fits = omega (arith, stack-to (refine-asks c.requires.cycle_ok c.new.ensures.0 c.new.ensures.1 c.new.ensures.2 (c.coarsen-stack.ensures _ _))) }
