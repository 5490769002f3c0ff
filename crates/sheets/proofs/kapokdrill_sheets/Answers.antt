-- `sheets::kapokdrill_sheets` meets its contract: 8 is tested first.
use Rattle.std.proofs.Common.{arith}
use Rattle.sheets.proofs.Served.{too_short, long-enough}
use Rattle.sheets.proofs.kapokdrill_sheets.Goals as goal

pub returns-then-output-lt122880 : goal.returns-then-output-lt122880
returns-then-output-lt122880 c = too_short c.args.file.now c.args.output.now (omega (arith, c.if-output-lt122880.true))

pub returns : goal.returns
returns c = long-enough c.args.file.now c.args.output.now (omega arith) c.print_sheets.ensures
