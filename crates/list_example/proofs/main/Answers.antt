use Rattle.std.proofs.Common.{sym, length-take-le}
use Rattle.list_example.specs.Lines.{lines-in}
use Rattle.list_example.proofs.main.Goals as goal

pub slice_bounds-output-end : goal.slice_bounds-output-end
slice_bounds-output-end c =
    lines-in _ _ _ _ _ _ _ c.kapokdrill_list-ran.ensures

pub slice_bounds-write_all-end : goal.slice_bounds-write_all-end
slice_bounds-write_all-end c =
    sym (length-take-le _ _ (lines-in _ _ _ _ _ _ _ c.kapokdrill_list-ran.ensures))
