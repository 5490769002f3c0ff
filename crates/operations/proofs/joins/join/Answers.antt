use Rattle.operations.specs.Join.{sets-above-ok, contract-ok, joined}
use Rattle.operations.proofs.joins.join.Goals as goal

pub set_above-requires : goal.set_above-requires
set_above-requires c =
    sets-above-ok c.requires.sound c.requires.pair

pub contract-requires : goal.contract-requires
contract-requires c =
    contract-ok c.requires.sound c.requires.pair

pub returns : goal.returns
returns c =
    λ loads loaded. joined _ c.requires.pair c.set_above.ensures.0 c.set_above.ensures.1 c.contract.ensures
