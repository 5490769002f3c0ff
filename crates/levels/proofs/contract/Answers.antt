-- `contract`: v's block is stored once v is a pin of no net.
use Rattle.std.proofs.Common.{arith}
use Rattle.levels.specs.Operations.{contract-needs, contract-does}
use Rattle.levels.proofs.contract.Goals as goal

pub contract_nets-requires : goal.contract_nets-requires
contract_nets-requires c =
    contract-needs c.requires

pub bounds-blocks-v : goal.bounds-blocks-v
bounds-blocks-v c =
    omega (arith, c.requires.v-in, c.requires.follows.world.lists.blocks-fit)

pub returns : goal.returns
returns c =
    contract-does c.requires c.contract_nets.ensures
