use Rattle.std.proofs.Common.{arith, ◌≡◌, length}
use Rattle.hall_rows.proofs.Desks.{count-found, count-all}
use Rattle.hall_rows.proofs.catalogues.Goals as goal

pub returns-then-table : goal.returns-then-table
returns-then-table c = λ n u. count-found u c.loop-c.c (c.loop-c.invariant.1 n u) c.if-table.true

pub returns : goal.returns
returns c = λ n u.
    let e : c.loop-c.c ≡ length c.args.aboves.now = omega arith in
    rw e at (count-all u c.loop-c.c (c.loop-c.invariant.1 n u) (omega arith))
