use Rattle.std.proofs.Common.{arith, ◌≡◌, refl}
use Rattle.first_tables.specs.Clear.{written_none, written-more}
use Rattle.first_tables.proofs.clear.clear_row.Goals as goal

pub loop-j-init : goal.loop-j-init
loop-j-init g c = (omega arith, written_none _ _ _ _)

pub bounds-table-row : goal.bounds-table-row
bounds-table-row g c = omega (arith, c.loop-j.invariant.1.len)

pub loop-j-preserved : goal.loop-j-preserved
loop-j-preserved g c = (omega arith, written-more c.args.zero _ c.args.row c.loop-j.j c.loop-j.invariant.1 (omega arith) refl)

pub returns : goal.returns
returns g c = let q : c.loop-j.j ≡ c.args.k = omega arith in rw q at c.loop-j.invariant.1
