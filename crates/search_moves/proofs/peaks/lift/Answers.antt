use Rattle.std.proofs.Common.{arith, ◌∙◌, ◌<◌}
use Rattle.incidence.specs.On.{along-next, gave}
use Rattle.search_moves.specs.Lifting.{net-in, higher-none, higher-then, under-higher, done_none, done_more, lifted}
use Rattle.search_moves.proofs.peaks.lift.Goals as goal

pub raise_row-requires : goal.raise_row-requires
raise_row-requires c =
    let ok = c.requires.1 in
    (record { i-to = ok.u-in; k-to = ok.few-blocks; in-gains = ok.u-row }, c.requires.0)

pub nets_of-e-items-requires : goal.nets_of-e-items-requires
nets_of-e-items-requires c =
    let ok = c.requires.1 in omega (arith, ok.u-bits, ok.few-nets)

pub loop-e-init : goal.loop-e-init
loop-e-init c =
    let a = c.args in
    let s = c.nets_of-e-items.ensures in
    rw c.into_iter-e-iterator.ensures.into_iter_gives
    (s.along, higher-none _, c.raise_row.ensures.1, done_none a.gains.now a.counts.now a.blocks.now a.board.presentpins.now a.board.firsts.now a.board.presentsizes.now a.board.bits.now a.board.m a.board.k a.u a.s a.t _ _ s.first)

pub offset_bounds-board-e : goal.offset_bounds-board-e
offset_bounds-board-e c =
    let e = gave c.loop-e.invariant.0 c.in-Some.ensures.steps in omega (arith, e.below, c.requires.1.few-nets)

pub bounds-board-e : goal.bounds-board-e
bounds-board-e c =
    let e = gave c.loop-e.invariant.0 c.in-Some.ensures.steps in omega (arith, e.below, c.requires.1.firsts-fit)

pub offset_bounds-board-e-in-loop-e : goal.offset_bounds-board-e-in-loop-e
offset_bounds-board-e-in-loop-e c =
    let e = gave c.loop-e.invariant.0 c.in-Some.ensures.steps in omega (arith, e.below, c.requires.1.few-nets)

pub bounds-board-e-in-loop-e : goal.bounds-board-e-in-loop-e
bounds-board-e-in-loop-e c =
    let e = gave c.loop-e.invariant.0 c.in-Some.ensures.steps in omega (arith, e.below, c.requires.1.sizes-fit)

pub lift_net-requires : goal.lift_net-requires
lift_net-requires c =
    let start = c.requires in
    let ok = start.1 in
    let g = gave c.loop-e.invariant.0 c.in-Some.ensures.steps in
    let e = c.in-Some.e in (
      c.loop-e.invariant.1.len ∙ c.raise_row.ensures.0.len ∙ start.0,
      (net-in ok e g.below).0,
      (net-in ok e g.below).1,
      ok.few-blocks,
      rw (c.from.ensures, c.from-in-loop-e.ensures) (ok.nets e g.below),
    )

pub loop-e-preserved : goal.loop-e-preserved
loop-e-preserved c =
    let a = c.args in
    let I = c.loop-e.invariant in
    let g = c.in-Some.ensures.steps in
    let e = gave I.0 g in
    let r = c.lift_net.ensures in (
      along-next I.0 g,
      higher-then I.1 r.0,
      λ b lb. under-higher a.gains.now a.u b r.0 (I.2 b lb),
      done_more a.gains.now a.counts.now a.blocks.now a.board.presentpins.now a.board.firsts.now a.board.presentsizes.now a.board.bits.now a.board.m a.board.k a.u a.s a.t c.in-Some.e _ _ _ c.from.ensures c.from-in-loop-e.ensures e.next r.0 (rw g.here at I.3) r.1,
    )

pub returns : goal.returns
returns c =
    let a = c.args in
    let I = c.loop-e.invariant in
    lifted a.gains.now a.counts.now a.blocks.now a.board.presentpins.now a.board.firsts.now a.board.presentsizes.now a.board.bits.now a.board.m a.board.k a.u a.s a.t _ (omega (arith, I.0.end, c.in-None.ensures.steps.0)) (higher-then c.raise_row.ensures.0 I.1) I.2 I.3
