-- `share_pins`: the first i pins have had their shares.
use Rattle.std.proofs.Common.{◌≤◌, ◌-◌, false}
use Rattle.connectivity.specs.Row.{row}
use Rattle.connectivity.specs.Laid.{Laid, given}
use Rattle.connectivity.proofs.whole.share_pins.Given as goal

abbrev pub invariant-loop-i : goal.invariant-loop-i
invariant-loop-i l = (l.i ≤ l.p) × Laid (given false l.counts l.e l.w) (row l.pins l.blocks l.first l.i) l.k l.initial.gains l.gains
