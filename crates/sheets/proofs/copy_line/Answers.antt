-- `sheets::copy_line` meets its contract.
use Rattle.std.proofs.Common.{arith, sym, length-take-le}
use Rattle.sheets.proofs.copy_line.Goals as goal

pub slice_bounds-put_word-end : goal.slice_bounds-put_word-end
slice_bounds-put_word-end c = sym (length-take-le _ _ c.requires.0)

pub put_word-requires : goal.put_word-requires
put_word-requires c = omega (arith, length-take-le c.args.written c.args.report.now c.requires.0, c.requires.1)
