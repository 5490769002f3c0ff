-- `converter::main` meets its contract: what is written lies within the output.
use Rattle.std.proofs.Common.{sym, length-take-le}
use Rattle.conversion.specs.Loads.{bytes-in}
use Rattle.converter.proofs.main.Goals as goal

pub slice_bounds-output-end : goal.slice_bounds-output-end
slice_bounds-output-end c = bytes-in _ _ _ _ _ c.kapokdrill_convert-done.ensures

pub slice_bounds-write_all-end : goal.slice_bounds-write_all-end
slice_bounds-write_all-end c = sym (length-take-le _ _ (bytes-in _ _ _ _ _ c.kapokdrill_convert-done.ensures))
