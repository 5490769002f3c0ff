use Rattle.std.proofs.Common.{sym, length-take-le}
use Rattle.hall_columns.specs.Entry.{bytes-in}
use Rattle.hall.proofs.main.Goals as goal

pub slice_bounds-output-end : goal.slice_bounds-output-end
slice_bounds-output-end c =
    bytes-in _ _ _ _ _ c.run_hall_columns-ran.ensures

pub slice_bounds-write_all-end : goal.slice_bounds-write_all-end
slice_bounds-write_all-end c =
    sym (length-take-le _ _ (bytes-in _ _ _ _ _ c.run_hall_columns-ran.ensures))
