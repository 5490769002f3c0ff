-- `uncontract`: v's block is stored while v is a pin of no net.
use Rattle.std.proofs.Common.{refl}
use Rattle.levels.specs.Operations.{uncontract-needs, uncontract-does}
use Rattle.levels.proofs.uncontract.Goals as goal

pub uncontract_nets-requires : goal.uncontract_nets-requires
uncontract_nets-requires c =
    uncontract-needs c.requires _ refl

pub returns : goal.returns
returns c =
    uncontract-does c.requires _ refl c.uncontract_nets.ensures
