use Rattle.std.proofs.Common.{arith, ◌≤◌, ◌-◌}
use Rattle.search_moves.specs.Rows.{rows-to-none, rows-to-more, rows-to-all}
use Rattle.search_moves.proofs.rows.fill_rows.Goals as goal

pub loop-e-init : goal.loop-e-init
loop-e-init c =
    rows-to-none c.args.presentpins.now c.args.firsts.now c.args.presentsizes.now c.requires.0 c.requires.1

pub fill_row-requires : goal.fill_row-requires
fill_row-requires c =
    let done = c.loop-e.invariant in (
      omega (arith, c.loop-e-test.true, c.requires.2, done.len),
      rw (c.from.ensures, c.from-in-loop-e.ensures) (c.requires.5 c.loop-e.e c.loop-e-test.true),
      done.blank c.loop-e.e (omega arith),
    )

pub loop-e-preserved : goal.loop-e-preserved
loop-e-preserved c =
    rows-to-more c.loop-e.e c.from.result c.from-in-loop-e.result c.from.ensures c.from-in-loop-e.ensures c.loop-e.invariant c.fill_row.ensures

pub returns : goal.returns
returns c =
    rows-to-all c.loop-e.e c.requires.2 (omega arith) c.loop-e.invariant
