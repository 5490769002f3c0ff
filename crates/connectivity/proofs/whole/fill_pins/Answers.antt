-- `fill_pins`: the counts, then the gains.
use Rattle.std.proofs.Common.{refl}
use Rattle.connectivity.specs.Whole.{fill-shares, fill_done}
use Rattle.connectivity.proofs.whole.fill_pins.Goals as goal

pub share_pins-requires : goal.share_pins-requires
share_pins-requires c =
    fill-shares c.requires refl c.count_pins.ensures

pub returns : goal.returns
returns c =
    fill_done c.requires refl c.count_pins.ensures c.share_pins.ensures
