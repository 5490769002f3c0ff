-- `heaviest`: one block more.
use Rattle.std.proofs.Common.{◌≡◌, ◌∙◌, ◌≤◌, ◌-◌}
use Rattle.walk.specs.Kept.{heaviest_in}
use Rattle.walk.proofs.kept.heaviest.Given as goal

abbrev pub invariant-loop-j : goal.invariant-loop-j
invariant-loop-j l = (l.most ≡ heaviest_in l.loads l.j)
