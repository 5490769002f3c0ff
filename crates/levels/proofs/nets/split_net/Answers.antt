-- `split_net`: v comes with the list before the undo, and u goes with the list after it where it was no pin.
use Rattle.std.proofs.Common.{arith}
use Rattle.levels.specs.SplitNet.{split-sets, split-sets-2, split-both, split-new}
use Rattle.levels.proofs.nets.split_net.Goals as goal

pub set_pin-requires : goal.set_pin-requires
set_pin-requires c =
    split-sets c.requires c.from-s.ensures

pub uncontract_net-r-requires : goal.uncontract_net-r-requires
uncontract_net-r-requires c =
    c.requires.splits

pub returns-then-p-r : goal.returns-then-p-r
returns-then-p-r c =
    split-both c.requires c.from-s.ensures c.set_pin.ensures c.uncontract_net-r.ensures (omega arith)

pub set_pin-requires-2 : goal.set_pin-requires-2
set_pin-requires-2 c =
    split-sets-2 c.requires c.from-s.ensures c.set_pin.ensures c.uncontract_net-r.ensures (omega arith)

pub returns : goal.returns
returns c =
    split-new c.requires c.from-s.ensures c.set_pin.ensures c.uncontract_net-r.ensures (omega arith) c.set_pin-2.ensures
