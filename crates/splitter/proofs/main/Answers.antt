use Rattle.std.proofs.Common.{sym, length-take-le}
use Rattle.columns.specs.Entry.{bytes-in}
use Rattle.splitter.proofs.main.Goals as goal

pub slice_bounds-output-end : goal.slice_bounds-output-end
slice_bounds-output-end c =
    bytes-in _ _ _ _ _ _ c.run_columns-ran.ensures.serves

pub slice_bounds-write_all-end : goal.slice_bounds-write_all-end
slice_bounds-write_all-end c =
    sym (length-take-le _ _ (bytes-in _ _ _ _ _ _ c.run_columns-ran.ensures.serves))
