use Rattle.std.proofs.Common.{arith}
use Rattle.hall_rooms.specs.Rooms.{bears-here, bears-none}
use Rattle.hall_rooms.proofs.borne.Goals as goal

pub returns-then-t-k : goal.returns-then-t-k
returns-then-t-k c = bears-here c.args.row.now c.args.k c.args.t c.if-t-k.true

pub returns : goal.returns
returns c = bears-none c.args.row.now c.args.k c.args.t (omega (arith, c.if-t-k.false))
