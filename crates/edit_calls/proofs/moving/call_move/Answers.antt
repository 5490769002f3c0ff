-- `call_move`: an accepted M works the halves out, records the move, makes it and puts the rows near it right.
use Rattle.std.proofs.Common.{arith, refl, sym}
use Rattle.refusal.specs.Number.{number-some, handed_on}
use Rattle.index.specs.Indexed.{right-same}
use Rattle.near_rows.specs.Still.{near-asks, near-keeps}
use Rattle.edit_calls.specs.Called.{roomy, pushed-as, told_refused}
use Rattle.edit_calls.specs.Moving.{open_of, goes-as, halves-needs, refused-M, accepted-M}
use Rattle.edit_calls.proofs.moving.call_move.Goals as goal

pub refuses_move-requires : goal.refuses_move-requires
refuses_move-requires c =
    ((roomy c.requires.fixedmarks_len.1.ready).blocks-fit, (roomy c.requires.fixedmarks_len.1.ready).weights-fit, (roomy c.requires.fixedmarks_len.1.ready).few-blocks, (roomy c.requires.fixedmarks_len.1.ready).loads-fit, c.requires.fixedmarks_len.0, (roomy c.requires.fixedmarks_len.1.ready).few-vertices)

pub returns-in_err-refuses_move : goal.returns-in_err-refuses_move
returns-in_err-refuses_move c =
    record { by_index = λ aboves loaded S h ceiling q f. rw (handed_on _ _ c.from_residual.ensures.1) (told_refused _ _ (refused-M _ c.args.ceilings.now c.args.fixedmarks _ _ _ 0 0 0 q f c.in_err-refuses_move.ensures (number-some _))); keeps_right = right-same _ }

pub overflow_sub-u : goal.overflow_sub-u
overflow_sub-u c =
    omega (arith, (open_of c.args.blocks.now c.args.loads.now c.args.ceilings.now c.args.fixedmarks c.args.weights.now c.args.n c.args.k c.args.u c.args.t (sym c.in_ok-refuses_move.ensures)).0)

pub halves-worth-requires : goal.halves-worth-requires
halves-worth-requires c =
    halves-needs c.requires.fixedmarks_len.1.ready (open_of c.args.blocks.now c.args.loads.now c.args.ceilings.now c.args.fixedmarks c.args.weights.now c.args.n c.args.k c.args.u c.args.t (sym c.in_ok-refuses_move.ensures)).1

pub overflow_sub-left : goal.overflow_sub-left
overflow_sub-left c =
    let ok = open_of c.args.blocks.now c.args.loads.now c.args.ceilings.now c.args.fixedmarks c.args.weights.now c.args.n c.args.k c.args.u c.args.t (sym c.in_ok-refuses_move.ensures) in
    omega (arith, ok.0)

pub offset_bounds-blocks-u : goal.offset_bounds-blocks-u
offset_bounds-blocks-u c =
    let ok = open_of c.args.blocks.now c.args.loads.now c.args.ceilings.now c.args.fixedmarks c.args.weights.now c.args.n c.args.k c.args.u c.args.t (sym c.in_ok-refuses_move.ensures) in
    omega (arith, ok.1.u-in, (roomy c.requires.fixedmarks_len.1.ready).few-vertices)

pub bounds-blocks-u : goal.bounds-blocks-u
bounds-blocks-u c =
    let ok = open_of c.args.blocks.now c.args.loads.now c.args.ceilings.now c.args.fixedmarks c.args.weights.now c.args.n c.args.k c.args.u c.args.t (sym c.in_ok-refuses_move.ensures) in
    omega (arith, ok.1.u-in, (roomy c.requires.fixedmarks_len.1.ready).blocks-fit)

pub narrow-requires : goal.narrow-requires
narrow-requires c =
    omega (arith, (open_of c.args.blocks.now c.args.loads.now c.args.ceilings.now c.args.fixedmarks c.args.weights.now c.args.n c.args.k c.args.u c.args.t (sym c.in_ok-refuses_move.ensures)).1.u-in, (roomy c.requires.fixedmarks_len.1.ready).few-vertices)

pub push-next-requires : goal.push-next-requires
push-next-requires c =
    (roomy c.requires.fixedmarks_len.1.ready).journal-short

pub narrow-to-requires : goal.narrow-to-requires
narrow-to-requires c =
    omega (arith, (open_of c.args.blocks.now c.args.loads.now c.args.ceilings.now c.args.fixedmarks c.args.weights.now c.args.n c.args.k c.args.u c.args.t (sym c.in_ok-refuses_move.ensures)).1.t-in, (roomy c.requires.fixedmarks_len.1.ready).few-blocks)

pub overflow_sub-u-2 : goal.overflow_sub-u-2
overflow_sub-u-2 c =
    omega (arith, (open_of c.args.blocks.now c.args.loads.now c.args.ceilings.now c.args.fixedmarks c.args.weights.now c.args.n c.args.k c.args.u c.args.t (sym c.in_ok-refuses_move.ensures)).0)

pub go-after-requires : goal.go-after-requires
go-after-requires c =
    record { aboves = c.requires.fixedmarks_len.1.aboves; loaded = c.requires.fixedmarks_len.1.loaded; goes = goes-as c.requires.fixedmarks_len.1.ready (open_of c.args.blocks.now c.args.loads.now c.args.ceilings.now c.args.fixedmarks c.args.weights.now c.args.n c.args.k c.args.u c.args.t (sym c.in_ok-refuses_move.ensures)).1 c.narrow-to.ensures }

pub overflow_sub-u-3 : goal.overflow_sub-u-3
overflow_sub-u-3 c =
    let ok = open_of c.args.blocks.now c.args.loads.now c.args.ceilings.now c.args.fixedmarks c.args.weights.now c.args.n c.args.k c.args.u c.args.t (sym c.in_ok-refuses_move.ensures) in
    omega (arith, ok.0)

pub put_near_right-requires : goal.put_near_right-requires
put_near_right-requires c =
    let ok = open_of c.args.blocks.now c.args.loads.now c.args.ceilings.now c.args.fixedmarks c.args.weights.now c.args.n c.args.k c.args.u c.args.t (sym c.in_ok-refuses_move.ensures) in
    let ready = c.requires.fixedmarks_len.1 in
    let goes = goes-as ready.ready ok.1 c.narrow-to.ensures in
    near-asks goes.sound goes.open-pair ((c.go-after.ensures ready.aboves ready.loaded).sound goes.h goes.cs goes.block goes.sound) c.requires.n_in_bounds

pub returns : goal.returns
returns c =
    let ok = open_of c.args.blocks.now c.args.loads.now c.args.ceilings.now c.args.fixedmarks c.args.weights.now c.args.n c.args.k c.args.u c.args.t (sym c.in_ok-refuses_move.ensures) in
    let ready = c.requires.fixedmarks_len.1 in
    let goes = goes-as ready.ready ok.1 c.narrow-to.ensures in
    let sound = (c.go-after.ensures ready.aboves ready.loaded).sound goes.h goes.cs goes.block goes.sound in record { by_index = λ aboves loaded S h ceiling q f. accepted-M h _ _ _ _ _ c.args.ceilings.now c.args.fixedmarks c.args.u c.args.t c.narrow-to.result _ (sym c.in_ok-refuses_move.ensures) c.narrow-to.ensures (c.go-after.ensures aboves loaded) (roomy c.requires.fixedmarks_len.1.ready).journal-short refl (pushed-as c.push-next.ensures c.narrow.ensures refl) q f c.halves-worth.ensures; keeps_right = near-keeps goes.sound goes.open-pair sound c.put_near_right.ensures }
