-- `in_order`: the first j places hold other blocks in order, and `last` is the number of the last of them.
use Rattle.std.proofs.Common.{◌≡◌, ◌∙◌, ◌-◌, ◌<◌}
use Rattle.index.specs.Row.{gain_at}
use Rattle.index.specs.Checked.{OrderedTo, Last}
use Rattle.index.proofs.order.in_order.Given as goal

abbrev pub invariant-loop-j : goal.invariant-loop-j
invariant-loop-j l = OrderedTo (gain_at l.gains l.x) l.own l.k l.index l.x l.j × Last (gain_at l.gains l.x) l.own l.k l.index l.x l.j l.last
