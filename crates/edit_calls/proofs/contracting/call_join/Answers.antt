-- `call_join`: the refusal, or the contraction, after which two rows of the index are put right.
use Rattle.std.proofs.Common.{arith, refl, sym}
use Rattle.refusal.specs.Number.{number-some, handed_on}
use Rattle.index.specs.Indexed.{right-same}
use Rattle.edit_calls.specs.Called.{roomy, pushed-as, told_refused}
use Rattle.edit_calls.specs.Contracting.{pair_of, refused-J, accepted-J}
use Rattle.search_moves.specs.Tabled.{rows_ok}
use Rattle.edit_calls.specs.Rows.{right-J}
use Rattle.edit_calls.proofs.contracting.call_join.Goals as goal

pub refuses_join-requires : goal.refuses_join-requires
refuses_join-requires c =
    (roomy c.requires.ready_j.ready).blocks-fit

pub returns-in_err-refuses_join : goal.returns-in_err-refuses_join
returns-in_err-refuses_join c =
    record { by_index = λ loads loaded h ceiling. rw (handed_on _ _ c.from_residual.ensures.1) (told_refused _ _ (refused-J _ _ _ _ 0 c.in_err-refuses_join.ensures (number-some _))); keeps_right = right-same c.args.index.now }

pub narrow-requires : goal.narrow-requires
narrow-requires c =
    omega (arith, (pair_of c.args.blocks.now c.args.n c.args.u c.args.v (sym c.in_ok-refuses_join.ensures)).1.u-in, (roomy c.requires.ready_j.ready).few-vertices)

pub narrow-requires-2 : goal.narrow-requires-2
narrow-requires-2 c =
    omega (arith, (pair_of c.args.blocks.now c.args.n c.args.u c.args.v (sym c.in_ok-refuses_join.ensures)).1.v-in, (roomy c.requires.ready_j.ready).few-vertices)

pub push-next-requires : goal.push-next-requires
push-next-requires c =
    (omega arith, (roomy c.requires.ready_j.ready).stack-short)

pub overflow_sub-u : goal.overflow_sub-u
overflow_sub-u c =
    omega (arith, (pair_of c.args.blocks.now c.args.n c.args.u c.args.v (sym c.in_ok-refuses_join.ensures)).0)

pub overflow_sub-v : goal.overflow_sub-v
overflow_sub-v c =
    omega (arith, (pair_of c.args.blocks.now c.args.n c.args.u c.args.v (sym c.in_ok-refuses_join.ensures)).0)

pub join-requires : goal.join-requires
join-requires c =
    record { loads = c.requires.ready_j.loads; loaded = c.requires.ready_j.loaded; h = c.requires.ready_j.ready.h; cs = c.requires.ready_j.ready.s.stack; block = c.requires.ready_j.ready.s.block; sound = c.requires.ready_j.ready.runs.sound; pair = (pair_of c.args.blocks.now c.args.n c.args.u c.args.v (sym c.in_ok-refuses_join.ensures)).1 }

pub overflow_sub-u-2 : goal.overflow_sub-u-2
overflow_sub-u-2 c =
    omega (arith, (pair_of c.args.blocks.now c.args.n c.args.u c.args.v (sym c.in_ok-refuses_join.ensures)).0)

pub overflow_sub-v-2 : goal.overflow_sub-v-2
overflow_sub-v-2 c =
    omega (arith, (pair_of c.args.blocks.now c.args.n c.args.u c.args.v (sym c.in_ok-refuses_join.ensures)).0)

pub put_two_right-requires : goal.put_two_right-requires
put_two_right-requires c =
    let ready = c.requires.ready_j.ready in
    let pair = (pair_of c.args.blocks.now c.args.n c.args.u c.args.v (sym c.in_ok-refuses_join.ensures)).1 in
    (rows_ok ((c.join.ensures c.requires.ready_j.loads c.requires.ready_j.loaded).sound ready.h ready.s.stack ready.s.block ready.runs.sound) c.requires.n_in_bounds, pair.u-in, pair.v-in)

pub overflow_sub-after : goal.overflow_sub-after
overflow_sub-after c =
    omega (arith, (pair_of c.args.blocks.now c.args.n c.args.u c.args.v (sym c.in_ok-refuses_join.ensures)).0)

pub offset_bounds-weights-u : goal.offset_bounds-weights-u
offset_bounds-weights-u c =
    omega (arith, (pair_of c.args.blocks.now c.args.n c.args.u c.args.v (sym c.in_ok-refuses_join.ensures)).1.u-in, (roomy c.requires.ready_j.ready).few-vertices)

pub bounds-weights-u : goal.bounds-weights-u
bounds-weights-u c =
    omega (arith, (pair_of c.args.blocks.now c.args.n c.args.u c.args.v (sym c.in_ok-refuses_join.ensures)).1.u-in, ((c.join.ensures c.requires.ready_j.loads c.requires.ready_j.loaded).sound c.requires.ready_j.ready.h c.requires.ready_j.ready.s.stack c.requires.ready_j.ready.s.block c.requires.ready_j.ready.runs.sound).weights-fit)

pub returns : goal.returns
returns c =
    record { by_index = λ loads loaded h ceiling. accepted-J h _ _ _ _ _ _ c.args.u c.args.v (sym c.in_ok-refuses_join.ensures) refl (c.join.ensures loads loaded) c.requires.ready_j.ready.stack-room (pushed-as c.push-next.ensures c.narrow.ensures c.narrow-2.ensures) (record { xs-same = c.clear-cleared.ensures.0; ys-same = c.clear-cleared.ensures.1; len_is = c.clear-cleared.ensures.2 }) _ refl; keeps_right = right-J c.requires.ready_j.ready.runs.sound (pair_of c.args.blocks.now c.args.n c.args.u c.args.v (sym c.in_ok-refuses_join.ensures)).1 (c.join.ensures c.requires.ready_j.loads c.requires.ready_j.loaded) c.put_two_right.ensures }
