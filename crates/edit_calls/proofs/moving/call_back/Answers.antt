-- `call_back`: B takes the latest move off the record, makes it back and puts the rows near it right.
use Rattle.std.proofs.Common.{arith}
use Rattle.index.specs.Indexed.{right-same}
use Rattle.near_rows.specs.Still.{near-asks, near-keeps}
use Rattle.edit_calls.specs.Called.{roomy}
use Rattle.edit_calls.specs.Contracting.{above-none}
use Rattle.edit_calls.specs.Moving.{back-open, goes-ok, refused-B, accepted-B}
use Rattle.edit_calls.proofs.moving.call_back.Goals as goal

pub returns-then-at-eq0 : goal.returns-then-at-eq0
returns-then-at-eq0 c = record { by_index = λ aboves loaded S h ceiling. refused-B _ c.if-at-eq0.true; keeps_right = right-same _ }

pub overflow_sub-v : goal.overflow_sub-v
overflow_sub-v c = omega (arith, above-none _ c.if-at-eq0.false)

pub offset_bounds-journal-at : goal.offset_bounds-journal-at
offset_bounds-journal-at c =
    omega (arith, (roomy c.requires.ready_m.ready).journal-short)

pub bounds-journal-at : goal.bounds-journal-at
bounds-journal-at c =
    omega (arith, (roomy c.requires.ready_m.ready).journal-short, above-none _ c.if-at-eq0.false)

pub overflow_sub-b : goal.overflow_sub-b
overflow_sub-b c = omega (arith, above-none _ c.if-at-eq0.false)

pub offset_bounds-journal-at-2 : goal.offset_bounds-journal-at-2
offset_bounds-journal-at-2 c =
    omega (arith, (roomy c.requires.ready_m.ready).journal-short)

pub bounds-journal-at-2 : goal.bounds-journal-at-2
bounds-journal-at-2 c =
    omega (arith, (roomy c.requires.ready_m.ready).journal-short, above-none _ c.if-at-eq0.false)

pub overflow_sub-left : goal.overflow_sub-left
overflow_sub-left c =
    omega (arith, (back-open c.requires.ready_m.ready.runs (above-none _ c.if-at-eq0.false)).0, c.from-x.ensures)

pub offset_bounds-blocks-x : goal.offset_bounds-blocks-x
offset_bounds-blocks-x c =
    let ok = back-open c.requires.ready_m.ready.runs (above-none _ c.if-at-eq0.false) in
    omega (arith, ok.0, ok.1.u-in, c.from-x.ensures, (roomy c.requires.ready_m.ready).few-vertices)

pub bounds-blocks-x : goal.bounds-blocks-x
bounds-blocks-x c =
    let ok = back-open c.requires.ready_m.ready.runs (above-none _ c.if-at-eq0.false) in
    omega (arith, ok.0, ok.1.u-in, c.from-x.ensures, (roomy c.requires.ready_m.ready).blocks-fit)

pub pop-next-requires : goal.pop-next-requires
pop-next-requires c =
    above-none _ c.if-at-eq0.false

pub overflow_sub-x : goal.overflow_sub-x
overflow_sub-x c =
    omega (arith, (back-open c.requires.ready_m.ready.runs (above-none _ c.if-at-eq0.false)).0, c.from-x.ensures)

pub back-after-requires : goal.back-after-requires
back-after-requires c =
    record { aboves = c.requires.ready_m.aboves; loaded = c.requires.ready_m.loaded; goes = goes-ok c.requires.ready_m.ready (above-none _ c.if-at-eq0.false) c.from-x.result c.from-x.ensures }

pub overflow_sub-x-2 : goal.overflow_sub-x-2
overflow_sub-x-2 c =
    omega (arith, (back-open c.requires.ready_m.ready.runs (above-none _ c.if-at-eq0.false)).0, c.from-x.ensures)

pub put_near_right-requires : goal.put_near_right-requires
put_near_right-requires c =
    let ready = c.requires.ready_m in
    let goes = goes-ok ready.ready (above-none _ c.if-at-eq0.false) c.from-x.result c.from-x.ensures in
    near-asks goes.sound goes.open-pair ((c.back-after.ensures ready.aboves ready.loaded).sound goes.h goes.cs goes.block goes.sound) c.requires.n_in_bounds

pub returns : goal.returns
returns c =
    let ready = c.requires.ready_m in
    let goes = goes-ok ready.ready (above-none _ c.if-at-eq0.false) c.from-x.result c.from-x.ensures in
    let sound = (c.back-after.ensures ready.aboves ready.loaded).sound goes.h goes.cs goes.block goes.sound in record { by_index = λ aboves loaded S h ceiling. accepted-B h _ _ _ _ _ (above-none _ c.if-at-eq0.false) c.from-x.result c.from-x.ensures (c.back-after.ensures aboves loaded) (record { xs-same = c.pop-next.ensures.0; ys-same = c.pop-next.ensures.1; len_is = c.pop-next.ensures.2 }) c.from.result c.from-2.result c.from.ensures c.from-2.ensures; keeps_right = near-keeps goes.sound goes.open-pair sound c.put_near_right.ensures }
