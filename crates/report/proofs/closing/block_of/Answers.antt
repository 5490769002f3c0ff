-- `report::closing::block_of` meets its contract: a representative is a vertex, and its block is the state's.
use Rattle.std.proofs.Common.{arith, ◌∙◌}
use Rattle.report.proofs.Climb.{climb-in, block-is}
use Rattle.report.proofs.closing.block_of.Goals as goal

pub join_place-place-requires : goal.join_place-place-requires
join_place-place-requires c = c.requires.shown.stack-fits

pub overflow_sub-r : goal.overflow_sub-r
overflow_sub-r c =
    let k = c.requires in
    let i = climb-in k.shown c.args.v k.low k.high c.representative-r.result _ c.join_place-place.ensures (c.representative-r.ensures k.s.stack k.n k.shown.hangs k.high) in
    omega (arith, k.shown.blocks-fit)

pub offset_bounds-blocks-r : goal.offset_bounds-blocks-r
offset_bounds-blocks-r c =
    let k = c.requires in
    let i = climb-in k.shown c.args.v k.low k.high c.representative-r.result _ c.join_place-place.ensures (c.representative-r.ensures k.s.stack k.n k.shown.hangs k.high) in
    omega (arith, k.shown.blocks-fit)

pub bounds-blocks-r : goal.bounds-blocks-r
bounds-blocks-r c =
    let k = c.requires in
    let i = climb-in k.shown c.args.v k.low k.high c.representative-r.result _ c.join_place-place.ensures (c.representative-r.ensures k.s.stack k.n k.shown.hangs k.high) in
    omega (arith, k.shown.blocks-fit)

pub returns : goal.returns
returns c =
    λ h s n t u. c.from.ensures ∙ block-is t c.args.v c.requires.low u c.representative-r.result _ c.join_place-place.ensures (c.representative-r.ensures s.stack n t.hangs u)
