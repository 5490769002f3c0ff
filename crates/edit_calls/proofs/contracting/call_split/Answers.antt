-- `call_split`: the refusal, or the undo, after which two rows of the index are put right.
use Rattle.std.proofs.Common.{arith, refl}
use Rattle.index.specs.Indexed.{right-same}
use Rattle.operations.specs.Join.{u-below, v_below}
use Rattle.edit_calls.specs.Called.{roomy}
use Rattle.edit_calls.specs.Contracting.{above-none, top_in, splits-ok, refused-S, accepted-S}
use Rattle.search_moves.specs.Tabled.{rows_ok}
use Rattle.edit_calls.specs.Rows.{right-S}
use Rattle.edit_calls.proofs.contracting.call_split.Goals as goal

pub returns-then-at-eq0 : goal.returns-then-at-eq0
returns-then-at-eq0 c =
    record { by_index = λ loads h ceiling. refused-S _ c.if-at-eq0.true; keeps_right = right-same c.args.index.now }

pub overflow_sub-into : goal.overflow_sub-into
overflow_sub-into c = omega (arith, above-none _ c.if-at-eq0.false)

pub offset_bounds-stack-at : goal.offset_bounds-stack-at
offset_bounds-stack-at c =
    omega (arith, (roomy c.requires.ready_s.ready).stack-short)

pub bounds-stack-at : goal.bounds-stack-at
bounds-stack-at c =
    omega (arith, (roomy c.requires.ready_s.ready).stack-short, above-none _ c.if-at-eq0.false)

pub overflow_sub-gone : goal.overflow_sub-gone
overflow_sub-gone c = omega (arith, above-none _ c.if-at-eq0.false)

pub offset_bounds-stack-at-2 : goal.offset_bounds-stack-at-2
offset_bounds-stack-at-2 c =
    omega (arith, (roomy c.requires.ready_s.ready).stack-short)

pub bounds-stack-at-2 : goal.bounds-stack-at-2
bounds-stack-at-2 c =
    omega (arith, (roomy c.requires.ready_s.ready).stack-short, above-none _ c.if-at-eq0.false)

pub overflow_sub-u : goal.overflow_sub-u
overflow_sub-u c =
    omega (arith, (top_in c.requires.ready_s.ready.runs (above-none _ c.if-at-eq0.false)).0, c.from-u.ensures)

pub overflow_sub-v : goal.overflow_sub-v
overflow_sub-v c =
    omega (arith, (top_in c.requires.ready_s.ready.runs (above-none _ c.if-at-eq0.false)).1, c.from-v.ensures)

pub pop-next-requires : goal.pop-next-requires
pop-next-requires c =
    (omega arith, above-none _ c.if-at-eq0.false)

pub split-requires : goal.split-requires
split-requires c =
    record { loads = c.requires.ready_s.loads; splits = splits-ok c.requires.ready_s.ready (above-none _ c.if-at-eq0.false) c.from-u.result c.from-v.result c.from-u.ensures c.from-v.ensures }

pub put_two_right-requires : goal.put_two_right-requires
put_two_right-requires c =
    let top = splits-ok c.requires.ready_s.ready (above-none _ c.if-at-eq0.false) c.from-u.result c.from-v.result c.from-u.ensures c.from-v.ensures in
    (rows_ok ((c.split.ensures c.requires.ready_s.loads).sound top.h top.cs top.block top.sound) c.requires.n_in_bounds, omega (arith, u-below _ _ top.sound, v_below _ _ top.sound), omega (arith, u-below _ _ top.sound, v_below _ _ top.sound))

pub returns : goal.returns
returns c =
    let top = splits-ok c.requires.ready_s.ready (above-none _ c.if-at-eq0.false) c.from-u.result c.from-v.result c.from-u.ensures c.from-v.ensures in record { by_index = λ loads h ceiling. accepted-S h _ _ _ _ _ _ (above-none _ c.if-at-eq0.false) c.from-u.result c.from-v.result c.from-u.ensures c.from-v.ensures (c.split.ensures loads) (record { xs-same = c.pop-next.ensures.0; ys-same = c.pop-next.ensures.1; len_is = c.pop-next.ensures.2 }) (record { xs-same = c.clear-cleared.ensures.0; ys-same = c.clear-cleared.ensures.1; len_is = c.clear-cleared.ensures.2 }) c.from.result c.from-2.result c.from.ensures c.from-2.ensures; keeps_right = right-S top.sound (c.split.ensures c.requires.ready_s.loads) refl refl c.put_two_right.ensures }
