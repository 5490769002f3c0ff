-- `depart`: one count falls, and its bit is cleared where none is left.
use Rattle.std.proofs.Common.{◌+◌, ◌*◌, ◌-◌, get_or, lt-ltb, arith, ap, ◌∙◌}
use Rattle.laws.specs.Choice.{one}
use Rattle.connectivity.specs.Law.{step_set}
use Rattle.connectivity.proofs.counts.depart.Goals as goal

pub overflow_sub-left : goal.overflow_sub-left
overflow_sub-left c =
    omega (arith, c.requires.bound (omega arith))

pub clear_last-requires : goal.clear_last-requires
clear_last-requires c =
    record { s_bound = omega arith; s_value = λ l. c.requires.mask_shows (omega arith) ∙ ap one (lt-ltb 0 (get_or c.args.counts.now (16 * c.args.e + (c.args.a - 1)) 0) (omega (arith, c.requires.bound (omega arith)))) }

pub returns : goal.returns
returns c =
    let v = get_or c.args.counts.now (16 * c.args.e + (c.args.a - 1)) 0 - 1 in
    step_set c.args.e c.args.a v c.clear_last.result c.args.counts.now c.args.visited.now (omega arith) (omega arith) (omega arith)
    c.clear_last.ensures
