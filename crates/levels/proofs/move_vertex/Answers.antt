use Rattle.std.proofs.Common.{arith, sym, ◌∙◌}
use Rattle.incidence.specs.On.{along-next, gave}
use Rattle.levels.specs.Move.{moving-first, moving-sets, moving-both, moving-more, moving-done}
use Rattle.levels.specs.Operations.{move_needs, move-does, move-stays}
use Rattle.levels.proofs.move_vertex.Goals as goal

pub bounds-blocks-u : goal.bounds-blocks-u
bounds-blocks-u c =
    omega (arith, c.requires.u-in, c.requires.follows.world.lists.blocks-fit)

pub returns-then-s-b : goal.returns-then-s-b
returns-then-s-b c =
    move-stays (sym c.from-s.ensures ∙ c.if-s-b.true ∙ c.from-b.ensures)

pub nets_of-e-items-requires : goal.nets_of-e-items-requires
nets_of-e-items-requires c =
    omega (arith, c.requires.u-in, c.requires.follows.room.bits_fit, c.requires.follows.room.few-nets)

pub loop-e-init : goal.loop-e-init
loop-e-init c =
    let s = c.nets_of-e-items.ensures in
    rw c.into_iter-e-iterator.ensures.into_iter_gives (s.along, moving-first (move_needs c.requires c.from-s.ensures c.from-b.ensures c.if-s-b.false) s.first)

pub bounds-firsts-e : goal.bounds-firsts-e
bounds-firsts-e c =
    let e = gave c.loop-e.invariant.0 c.in-Some.ensures.steps in omega (arith, e.below, c.requires.follows.world.lists.firsts-fit)

pub bounds-presentsizes-e : goal.bounds-presentsizes-e
bounds-presentsizes-e c =
    let e = gave c.loop-e.invariant.0 c.in-Some.ensures.steps in omega (arith, e.below, c.requires.follows.world.lists.sizes-fit)

pub move_pin-requires : goal.move_pin-requires
move_pin-requires c =
    let I = c.loop-e.invariant in
    let g = c.in-Some.ensures.steps in
    let e = gave I.0 g in
    let needs = move_needs c.requires c.from-s.ensures c.from-b.ensures c.if-s-b.false in
    record { sets = moving-sets needs e.below e.here (rw g.here at I.1) c.from-first.ensures c.from-p.ensures; le_a = moving-both needs e.below e.here (rw g.here at I.1) c.from-first.ensures c.from-p.ensures }

pub loop-e-preserved : goal.loop-e-preserved
loop-e-preserved c =
    let I = c.loop-e.invariant in
    let g = c.in-Some.ensures.steps in
    let e = gave I.0 g in
    (along-next I.0 g, moving-more (move_needs c.requires c.from-s.ensures c.from-b.ensures c.if-s-b.false) e.below e.here (rw g.here at I.1) c.from-first.ensures c.from-p.ensures c.move_pin.ensures e.next)

pub bounds-blocks-u-2 : goal.bounds-blocks-u-2
bounds-blocks-u-2 c =
    omega (arith, c.requires.u-in, c.requires.follows.world.lists.blocks-fit)

pub shape_of-counts : goal.shape_of-counts
shape_of-counts c = c.loop-e.invariant.1.kept.of-tally.counts-len

pub shape_of-visited : goal.shape_of-visited
shape_of-visited c = c.loop-e.invariant.1.kept.of-tally.masks-len

pub shape_of-gains : goal.shape_of-gains
shape_of-gains c = c.loop-e.invariant.1.kept.of-gains.gains-len

pub returns : goal.returns
returns c =
    move-does c.requires c.from-b.ensures (moving-done (move_needs c.requires c.from-s.ensures c.from-b.ensures c.if-s-b.false) (omega (arith, c.loop-e.invariant.0.end, c.in-None.ensures.steps.0)) c.loop-e.invariant.1)
