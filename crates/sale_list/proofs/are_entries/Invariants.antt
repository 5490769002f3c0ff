use Rattle.std.proofs.Common.{◌-◌, ◌≤◌, ◌≡◌, true}
use Rattle.model.specs.ListEntry.{entries_to}
use Rattle.sale_list.proofs.are_entries.Given as goal

abbrev pub invariant-loop-i : goal.invariant-loop-i
invariant-loop-i l = (entries_to l.operands l.i l.list ≡ true) × (l.i ≤ l.count)
