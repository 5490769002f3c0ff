use Rattle.std.proofs.Common.{arith}
use Rattle.incidence.specs.On.{along-next, gave}
use Rattle.search_moves.specs.Parted.{parted-none, parted-more, parted-all}
use Rattle.search_moves.proofs.rows.part_rows.Goals as goal

pub nets_of-e-items-requires : goal.nets_of-e-items-requires
nets_of-e-items-requires c = omega (arith, c.requires.v-fit, c.requires.few)

pub loop-e-init : goal.loop-e-init
loop-e-init c =
    let s = c.nets_of-e-items.ensures in
    rw c.into_iter-e-iterator.ensures.into_iter_gives (s.along, parted-none c.args.rows.now c.args.bits.now c.args.u c.args.v c.args.m _ s.first)

pub part_row-requires : goal.part_row-requires
part_row-requires c =
    let ok = c.requires in
    let e = gave c.loop-e.invariant.0 c.in-Some.ensures.steps in
    (omega (arith, e.below, ok.rows_fit, c.loop-e.invariant.1.len), ok.u-fit, omega (arith, e.below, ok.few), ok.u-small, ok.v-small, ok.apart)

pub loop-e-preserved : goal.loop-e-preserved
loop-e-preserved c =
    let I = c.loop-e.invariant in
    let g = c.in-Some.ensures.steps in
    let e = gave I.0 g in
    (along-next I.0 g, parted-more c.in-Some.e c.args.m _ e.here (rw g.here at I.1) c.part_row.ensures e.next)

pub returns : goal.returns
returns c =
    let I = c.loop-e.invariant in
    parted-all c.args.m _ (omega (arith, I.0.end, c.in-None.ensures.steps.0)) (omega (arith, I.0.end, c.in-None.ensures.steps.0)) I.1
