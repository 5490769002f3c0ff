-- `write_at`: the first i records are written, each at its place.
use Rattle.std.proofs.Common.{◌-◌, ◌≡◌, ◌≤◌}
use Rattle.hall_records.specs.Placed.{placed}
use Rattle.hall_records.proofs.write_at.Given as goal

abbrev pub invariant-loop-i : goal.invariant-loop-i
invariant-loop-i l = (l.i ≤ l.n) × (l.lots ≡ placed l.i l.places l.new l.initial.lots)
