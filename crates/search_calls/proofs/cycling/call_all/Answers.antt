-- `call_all`: the refusal while a contraction stands, or the cycle.
use Rattle.std.proofs.Common.{arith}
use Rattle.index.specs.Indexed.{right-same, indexed-right, indexed-then}
use Rattle.search_calls.specs.Cycling.{cycle-rows, refused-A, cycle-asks, accepted-A}
use Rattle.search_calls.proofs.cycling.call_all.Goals as goal

pub returns-then-stack-ne0 : goal.returns-then-stack-ne0
returns-then-stack-ne0 c =
    record { called = λ h ceiling qa qc qx. refused-A _ c.if-stack-ne0.true; keeps_right = right-same c.args.index.now }

pub run-d-requires : goal.run-d-requires
run-d-requires c =
    record { cycle_ok = cycle-asks c.requires.ready_a c.if-stack-ne0.false; n_in_bounds = c.requires.n_in_bounds }

pub returns : goal.returns
returns c =
    record { called = λ h ceiling qa qc qx. accepted-A h ceiling _ _ _ _ _ _ _ _ qa qc qx c.if-stack-ne0.false c.run-d.ensures.does (record { xs-same = c.clear-cleared.ensures.0; ys-same = c.clear-cleared.ensures.1; len_is = c.clear-cleared.ensures.2 }); keeps_right = indexed-right (indexed-then c.run-d.ensures.kept c.put_all_right.ensures) }

pub put_all_right-requires : goal.put_all_right-requires
put_all_right-requires c =
    cycle-rows c.requires.ready_a c.if-stack-ne0.false c.run-d.ensures.does (omega (arith, c.requires.n_in_bounds, c.run-d.ensures.kept.len))
