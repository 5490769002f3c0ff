-- `put_net_right`: nothing is asked of a net that has more pins in both blocks.
use Rattle.near_rows.specs.Near.{mended-none, net-calm}
use Rattle.near_rows.proofs.near.put_net_right.Goals as goal

pub returns-then-not-is_critical : goal.returns-then-not-is_critical
returns-then-not-is_critical c = (mended-none _, net-calm (c.is_critical.ensures c.if-not-is_critical.true))
