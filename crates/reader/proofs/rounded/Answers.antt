-- `reader::rounded` meets its contract.
use Rattle.reader.proofs.Loads.{nearest-down, nearest-half, nearest-up}
use Rattle.reader.proofs.rounded.Goals as goal

pub returns-then-rest-lt500 : goal.returns-then-rest-lt500
returns-then-rest-lt500 c = nearest-down c.args.x c.if-rest-lt500.true

pub returns-then-rest-eq500 : goal.returns-then-rest-eq500
returns-then-rest-eq500 c = nearest-half c.args.x c.if-rest-eq500.true

pub returns : goal.returns
returns c = nearest-up c.args.x c.if-rest-lt500.false c.if-rest-eq500.false
