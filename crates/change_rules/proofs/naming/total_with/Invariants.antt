-- `total_with` meets its contract: the sum over the buyers below e.
use Rattle.std.proofs.Common.{◌+◌, ◌-◌, ◌*◌, ◌≤◌, ◌≡◌, ◌∙◌}
use Rattle.renewal.specs.Putting.{total_with}
use Rattle.change_rules.proofs.naming.total_with.Given as goal

abbrev pub invariant-loop-e : goal.invariant-loop-e
invariant-loop-e l = (l.e ≤ l.m) × (l.t ≡ total_with l.named l.loadedsizes l.e) × (l.t ≤ l.e * 131072)
