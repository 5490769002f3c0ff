-- `call_walk`: the refusal, or a walk, whose numbers are small.
use Rattle.std.proofs.Common.{arith, refl, sym, ◌∙◌}
use Rattle.refusal.specs.Number.{number-some, handed_on}
use Rattle.index.specs.Indexed.{right-same, indexed-right, indexed-then}
use Rattle.search_moves.specs.Rows.{rows_none}
use Rattle.edit_calls.specs.Called.{roomy, told_refused}
use Rattle.search_calls.specs.Searching.{walk_rows, both_of, walk-asks, walk-few, refused-W, accepted-W}
use Rattle.search_calls.proofs.searching.call_walk.Goals as goal

pub refuses_walk-requires : goal.refuses_walk-requires
refuses_walk-requires c =
    (roomy c.requires.ready_w.moving.ready).blocks-fit

pub returns-in_err-refuses_walk : goal.returns-in_err-refuses_walk
returns-in_err-refuses_walk c =
    record { by_index = λ aboves loaded S h ceiling qc qx. rw (handed_on _ _ c.from_residual.ensures.1) (told_refused _ _ (refused-W _ _ _ _ 0 0 0 c.in_err-refuses_walk.ensures (number-some _))); keeps_right = right-same c.args.index.now }

pub slice_bounds-walk-end : goal.slice_bounds-walk-end
slice_bounds-walk-end c = refl

pub overflow_sub-u : goal.overflow_sub-u
overflow_sub-u c =
    omega (arith, (both_of c.args.blocks.now c.args.n c.args.u c.args.v (sym c.in_ok-refuses_walk.ensures)).u-from)

pub overflow_sub-v : goal.overflow_sub-v
overflow_sub-v c =
    omega (arith, (both_of c.args.blocks.now c.args.n c.args.u c.args.v (sym c.in_ok-refuses_walk.ensures)).v-from)

pub walk-w-requires : goal.walk-w-requires
walk-w-requires c =
    let asks = walk-asks c.args.u c.args.v c.requires.ready_w (sym c.in_ok-refuses_walk.ensures) in record { walk_ok = asks; n_in_bounds = c.requires.n_in_bounds; rows_past = rows_none (λ e _. omega (arith, (c.type_inv.presentsizes e).fits)) }

pub narrow-requires : goal.narrow-requires
narrow-requires c =
    (walk-few c.requires.ready_w c.walk-w.ensures.by_index).0

pub narrow-requires-2 : goal.narrow-requires-2
narrow-requires-2 c =
    (walk-few c.requires.ready_w c.walk-w.ensures.by_index).1

pub returns : goal.returns
returns c =
    record { by_index = λ aboves loaded S h ceiling qc qx. accepted-W h ceiling _ _ _ _ _ _ _ c.args.u c.args.v qc qx (sym c.in_ok-refuses_walk.ensures) (c.walk-w.ensures.by_index aboves loaded) (record { xs-same = c.clear-cleared.ensures.0; ys-same = c.clear-cleared.ensures.1; len_is = c.clear-cleared.ensures.2 }) _ _ (c.from.ensures ∙ c.narrow.ensures) (c.from-2.ensures ∙ c.narrow-2.ensures); keeps_right = indexed-right (indexed-then c.walk-w.ensures.kept c.put_all_right.ensures) }

pub put_all_right-requires : goal.put_all_right-requires
put_all_right-requires c =
    walk_rows c.requires.ready_w c.walk-w.ensures.by_index (omega (arith, c.requires.n_in_bounds, c.walk-w.ensures.kept.len))
