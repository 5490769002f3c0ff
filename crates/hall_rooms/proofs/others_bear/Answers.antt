use Rattle.std.proofs.Common.{arith, sym, [], get_or}
use Rattle.laws.specs.Sum.{sum-zero}
use Rattle.hall_rooms.specs.Rooms.{bearing, besides-le, bear-more}
use Rattle.hall_rooms.proofs.others_bear.Goals as goal

pub loop-d-init : goal.loop-d-init
loop-d-init c = (omega arith, sym (sum-zero _), omega arith)

pub overflow_add-all : goal.overflow_add-all
overflow_add-all c = omega (arith, c.loop-d.invariant.2, c.counted-all.ensures, besides-le c.args.c c.loop-d.d (bearing (get_or c.args.loads.now c.loop-d.d []) (get_or c.args.ks c.loop-d.d 0) c.args.t) 999999999 (c.requires.4 c.loop-d.d (omega arith)))

pub loop-d-preserved : goal.loop-d-preserved
loop-d-preserved c = (omega arith, bear-more c.args.loads.now c.args.ks c.args.c c.args.t c.loop-d.d c.loop-d.invariant.1 c.counted-all.ensures, omega (arith, c.loop-d.invariant.2, c.counted-all.ensures, besides-le c.args.c c.loop-d.d (bearing (get_or c.args.loads.now c.loop-d.d []) (get_or c.args.ks c.loop-d.d 0) c.args.t) 999999999 (c.requires.4 c.loop-d.d (omega arith))))
