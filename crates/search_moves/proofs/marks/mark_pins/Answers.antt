use Rattle.std.proofs.Common.{arith, ◌≡◌, ◌≤◌, ◌-◌}
use Rattle.search_moves.specs.Marks.{nets-same, nets-then, pins-none, pins-more}
use Rattle.search_moves.proofs.marks.mark_pins.Goals as goal

pub loop-j-init : goal.loop-j-init
loop-j-init c = (pins-none c.args.marks.now c.args.presentpins.now c.args.first, nets-same c.args.marks.now)

pub overflow_sub-from : goal.overflow_sub-from
overflow_sub-from c =
    omega (arith, c.from.ensures, c.requires.1.vertices c.loop-j.j (omega arith))

pub mark_vertex-requires : goal.mark_vertex-requires
mark_vertex-requires c =
    omega (arith, c.from.ensures, c.requires.1.vertices c.loop-j.j (omega arith), c.requires.0, c.loop-j.invariant.0.len)

pub loop-j-preserved : goal.loop-j-preserved
loop-j-preserved c =
    (pins-more c.args.presentpins.now c.args.first c.loop-j.j c.from.result (c.requires.1.vertices c.loop-j.j (omega arith)).0 c.from.ensures c.loop-j.invariant.0 c.mark_vertex.ensures.0, nets-then c.loop-j.invariant.1 c.mark_vertex.ensures.1)

pub returns : goal.returns
returns c =
    let e : c.loop-j.j ≡ c.args.size = omega arith in (rw e at c.loop-j.invariant.0, c.loop-j.invariant.1)
