-- `hall_records::gathering::used` meets its contract. Assumes nothing.
use Rattle.std.proofs.Common.{lt-ltb, le-ltb, sym, ap}
use Rattle.laws.specs.Choice.{one}
use Rattle.hall_records.proofs.gathering.used.Goals as goal

pub returns-then-i-counts : goal.returns-then-i-counts
returns-then-i-counts c = sym (ap one (lt-ltb _ _ c.if-i-counts.true))

pub returns : goal.returns
returns c = sym (ap one (le-ltb _ _ c.if-i-counts.false))
