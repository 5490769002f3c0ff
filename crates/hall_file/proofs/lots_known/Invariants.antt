-- `hall_file::lots_known` meets its contract: the lots of the first c catalogues are told.
use Rattle.std.proofs.Common.{◌-◌, ◌≤◌}
use Rattle.hall_file.specs.Worked.{LotsTo}
use Rattle.hall_file.proofs.lots_known.Given as goal

abbrev pub invariant-loop-c : goal.invariant-loop-c
invariant-loop-c l = LotsTo l.courses l.c l.lots × (l.c ≤ l.count)
