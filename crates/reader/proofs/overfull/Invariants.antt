-- `reader::overfull` meets its contract.
use Rattle.std.proofs.Common.{◌≡◌, ℕ, false, List}
use Rattle.model.specs.Catalogue.{Net}
use Rattle.reader.proofs.Loads.{up_to}
use Rattle.reader.proofs.overfull.Given as goal

abbrev pub invariant-loop-b : goal.invariant-loop-b
invariant-loop-b l = (fixed : List ℕ) (ns : List Net) → up_to l.vertices l.blocks l.imbalance l.weights l.draft fixed l.lows ns l.b ≡ false
