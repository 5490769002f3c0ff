-- `arrive`: one count rises, and its bit is set where there was none.
use Rattle.std.proofs.Common.{◌+◌, ◌*◌, ◌-◌, get_or, lt-ltb, arith, ap, ◌∙◌}
use Rattle.laws.specs.Choice.{one}
use Rattle.connectivity.specs.Law.{step_set}
use Rattle.connectivity.proofs.counts.arrive.Goals as goal

pub overflow_add-counts : goal.overflow_add-counts
overflow_add-counts c =
    omega (arith, c.requires.b_bound_2 (omega arith))

pub set_first-requires : goal.set_first-requires
set_first-requires c =
    record { s_bound = omega arith; s_value = λ l. c.requires.mask_shows (omega arith) ∙ ap one (lt-ltb 0 (get_or c.args.counts.now (16 * c.args.e + (c.args.b - 1)) 0) (omega (arith, l))) }

pub returns : goal.returns
returns c =
    let v = get_or c.args.counts.now (16 * c.args.e + (c.args.b - 1)) 0 + 1 in
    step_set c.args.e c.args.b v c.set_first.result c.args.counts.now c.args.visited.now (omega arith) (omega arith) (omega arith)
    (rw (lt-ltb 0 v (omega arith)) c.set_first.ensures)
