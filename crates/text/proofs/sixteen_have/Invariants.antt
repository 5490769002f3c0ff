-- `text::sixteen_have` meets its contract: the first j bytes are tested.
use Rattle.std.proofs.Common.{◌+◌, ◌≤◌, ◌≡◌, false, length}
use Rattle.text.specs.Field.{Without}
use Rattle.text.proofs.sixteen_have.Given as goal

abbrev pub invariant-loop-j : goal.invariant-loop-j
invariant-loop-j l = (l.at + 16 ≤ length l.s) × (l.found ≡ false → Without l.s l.at l.j l.b)
