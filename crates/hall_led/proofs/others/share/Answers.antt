-- `hall_led::others::share` meets its contract.
use Rattle.std.proofs.Common.{refl}
use Rattle.hall_rooms.specs.Rooms.{besides-own, besides-other}
use Rattle.hall_led.proofs.others.share.Goals as goal

pub returns-then-d-c : goal.returns-then-d-c
returns-then-d-c c = besides-own c.args.c c.args.d c.args.of c.if-d-c.true

pub returns-else-d-c : goal.returns-else-d-c
returns-else-d-c c = besides-other c.args.c c.args.d c.args.of c.if-d-c.false refl
