-- `touch_others`: the four rules add up to Change's `delta`.
use Rattle.connectivity.specs.Touch.{rows-0, rows-1, rows-2, rows-3, others-touched}
use Rattle.connectivity.proofs.touch_others.Goals as goal

pub last_if-requires : goal.last_if-requires
last_if-requires c =
    record { rows = rows-0 c.requires; le_a = c.requires.a-sole }

pub last_if-requires-2 : goal.last_if-requires-2
last_if-requires-2 c =
    record { rows = rows-1 c.requires c.last_if.ensures; le_a = c.requires.b-sole }

pub column_if-requires : goal.column_if-requires
column_if-requires c =
    record { rows = rows-2 c.requires c.last_if.ensures c.last_if-2.ensures; a_le_k = c.requires.a_in; le_a = c.requires.a-some }

pub column_if-requires-2 : goal.column_if-requires-2
column_if-requires-2 c =
    record { rows = rows-3 c.requires c.last_if.ensures c.last_if-2.ensures c.column_if.ensures; a_le_k = c.requires.b-in; le_a = c.requires.b-some }

pub returns : goal.returns
returns c =
    others-touched c.requires c.last_if.ensures c.last_if-2.ensures c.column_if.ensures c.column_if-2.ensures
