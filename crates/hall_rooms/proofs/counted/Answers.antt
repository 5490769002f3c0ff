use Rattle.hall_rooms.specs.Rooms.{bearing, besides-own, besides-other}
use Rattle.hall_rooms.proofs.counted.Goals as goal

pub returns-then-d-c : goal.returns-then-d-c
returns-then-d-c c = besides-own c.args.c c.args.d (bearing c.args.row.now c.args.k c.args.t) c.if-d-c.true

pub returns : goal.returns
returns c = besides-other c.args.c c.args.d (bearing c.args.row.now c.args.k c.args.t) c.if-d-c.false c.borne.ensures
