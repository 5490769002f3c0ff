-- `hall_opening::open_tables` meets its contract: what was loaded can be opened, its rows put in order, and its calls begun.
use Rattle.call_list.specs.Opened.{can-begin, can-open, rows_fit}
use Rattle.hall_opening.specs.Opening.{opens}
use Rattle.hall_opening.proofs.open_tables.Goals as goal

pub open-draft-requires : goal.open-draft-requires
open-draft-requires c = let can = c.requires in can-open can.prepared can.blank can.loads-len

pub put_all_right-requires : goal.put_all_right-requires
put_all_right-requires c = let can = c.requires in rows_fit can.prepared can.blank c.open-draft.ensures

pub begin-requires : goal.begin-requires
begin-requires c = can-begin c.requires.prepared

pub returns : goal.returns
returns c = opens c.requires.blank c.open-draft.ensures c.put_all_right.ensures c.begin.ensures
