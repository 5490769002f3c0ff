-- `put_pins_right`: the rows of the first j pins are right, and rows that were right still are.
use Rattle.std.proofs.Common.{◌≡◌, ◌-◌, ◌≤◌}
use Rattle.near_rows.specs.Near.{Mended, PinsRight}
use Rattle.near_rows.proofs.near.put_pins_right.Given as goal

abbrev pub invariant-loop-j : goal.invariant-loop-j
invariant-loop-j l = Mended l.gains l.blocks l.n l.k l.initial.index l.index × PinsRight l.gains l.blocks l.k l.index l.presentpins l.first l.j
