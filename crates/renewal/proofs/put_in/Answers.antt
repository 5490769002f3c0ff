-- `put_in` meets its contract: `spread`, then zeros behind the last pin.
use Rattle.renewal.specs.Clearing.{put_in}
use Rattle.renewal.proofs.put_in.Goals as goal

pub returns : goal.returns
returns c =
    put_in c.requires c.spread.ensures c.clear_from.ensures
