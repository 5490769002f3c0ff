use Rattle.std.proofs.Common.{arith, ◌≡◌, ◌≤◌, ◌-◌}
use Rattle.search_moves.specs.Rows.{filled_none, filled_more}
use Rattle.search_moves.proofs.rows.fill_row.Goals as goal

pub loop-j-init : goal.loop-j-init
loop-j-init c =
    filled_none c.args.rows.now c.args.presentpins.now c.args.first c.args.e c.requires.2

pub overflow_sub-from : goal.overflow_sub-from
overflow_sub-from c =
    omega (arith, c.from.ensures, c.requires.1.vertices c.loop-j.j (omega arith))

pub put-requires : goal.put-requires
put-requires c =
    omega (arith, c.from.ensures, c.requires.1.vertices c.loop-j.j (omega arith), c.requires.0, c.loop-j.invariant.len)

pub loop-j-preserved : goal.loop-j-preserved
loop-j-preserved c =
    filled_more c.loop-j.j c.from.result (c.requires.1.vertices c.loop-j.j (omega arith)).0 c.from.ensures c.loop-j.invariant c.put.ensures

pub returns : goal.returns
returns c =
    let whole : c.loop-j.j ≡ c.args.size = omega arith in
    rw whole at c.loop-j.invariant
