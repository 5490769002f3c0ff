-- `put_two_right`: one row after the other.
use Rattle.std.proofs.Common.{refl}
use Rattle.edit_calls.specs.Rows.{row_ok, two-right}
use Rattle.edit_calls.proofs.contracting.put_two_right.Goals as goal

pub put_right-requires : goal.put_right-requires
put_right-requires c = row_ok _ c.requires.0 refl c.args.u c.requires.1

pub put_right-requires-2 : goal.put_right-requires-2
put_right-requires-2 c =
    row_ok _ c.requires.0 c.put_right.ensures.len c.args.v c.requires.2

pub returns : goal.returns
returns c =
    two-right c.requires.0.k-to c.requires.1 c.requires.2 c.put_right.ensures c.put_right-2.ensures
