use Rattle.std.proofs.Common.{◌≡◌, ◌∙◌, length, ◌≤◌, ◌-◌}
use Rattle.fixed.specs.Starting.{FixedIn}
use Rattle.fixed.proofs.starting.fixed_in.Given as goal

abbrev pub invariant-loop-i : goal.invariant-loop-i
invariant-loop-i l = (l.i ≤ l.len) × (length l.standing ≡ 48) × FixedIn l.initial.standing l.into l.gone l.i l.standing
