use Rattle.incidence.specs.On.{on-is}
use Rattle.incidence.proofs.is_pin.Goals as goal

pub returns : goal.returns
returns c = rw (on-is c.args.bits.now c.args.x c.args.e)
