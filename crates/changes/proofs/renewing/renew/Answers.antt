-- `renew` meets its contract: what `reopen` leaves, and all rows of the index made right on it.
use Rattle.std.proofs.Common.{◌≡◌, ◌∙◌}
use Rattle.changes.specs.Stands.{renew-rows}
use Rattle.changes.proofs.renewing.renew.Goals as goal

pub put_all_right-requires : goal.put_all_right-requires
put_all_right-requires c =
    renew-rows c.requires.can_reopen c.requires.n_in_bounds c.reopen-metric.ensures
