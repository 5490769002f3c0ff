-- the buyers so far are named in the table, none of them twice
use Rattle.change_rules.specs.Named.{Naming}
use Rattle.change_rules.proofs.naming.mark_buyers.Given as goal

abbrev pub invariant-loop-buyer : goal.invariant-loop-buyer
invariant-loop-buyer l = Naming l.named l.buyers l.buyer-index
