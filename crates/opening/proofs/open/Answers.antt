-- `open` meets its contract: prepared tables, the blocks' weights and the metric together are sound.
use Rattle.opening.specs.Opening.{prepare-ok, opened}
use Rattle.opening.proofs.open.Goals as goal

pub prepare-requires : goal.prepare-requires
prepare-requires c =
    prepare-ok c.requires.opens

pub returns : goal.returns
returns c =
    opened c.prepare.ensures c.weigh_blocks.ensures c.metric_of.ensures
