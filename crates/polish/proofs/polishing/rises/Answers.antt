use Rattle.std.proofs.Common.{arith, refl}
use Rattle.polish.specs.Polishing.{rise-read}
use Rattle.polish.proofs.polishing.rises.Goals as goal

pub returns : goal.returns
returns c =
    rise-read c.args.gains.now c.args.v c.args.b c.from.result c.from-2.result c.from.ensures c.from-2.ensures (omega arith) refl
