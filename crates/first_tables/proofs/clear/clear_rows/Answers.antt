use Rattle.std.proofs.Common.{arith, ◌≡◌}
use Rattle.first_tables.specs.Clear.{rows_none, rows_more}
use Rattle.first_tables.proofs.clear.clear_rows.Goals as goal

pub loop-y-init : goal.loop-y-init
loop-y-init g c = (omega arith, rows_none _ _ _)

pub clear_row-requires : goal.clear_row-requires
clear_row-requires g c = omega (arith, c.requires, c.loop-y.invariant.1.len, c.loop-y-test.true)

pub loop-y-preserved : goal.loop-y-preserved
loop-y-preserved g c = (omega arith, rows_more c.args.zero c.loop-y.y c.args.k c.requires.1 c.loop-y.invariant.1 c.clear_row.ensures)

pub returns : goal.returns
returns g c = let q : c.loop-y.y ≡ c.args.n = omega arith in rw q at c.loop-y.invariant.1
