-- `sheet_printer::main` meets its contract: what is written lies within the output.
use Rattle.std.proofs.Common.{replicate}
use Rattle.sheets.proofs.Served.{bytes-in}
use Rattle.sheet_printer.proofs.main.Goals as goal

pub slice_bounds-output-end : goal.slice_bounds-output-end
slice_bounds-output-end c =
    let ran = c.kapokdrill_sheets-ran in
    bytes-in _ (replicate 122880 0) _ ran.result.code ran.result.written ran.ensures
