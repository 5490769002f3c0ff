-- Demand 3's machine half, one theorem about the whole list: from an accepted catalogue, for every list of call lines, X and N among them, no block
-- ends above the capacity, no accepted W, P or A in it ends on a higher metric than it began with, and after each accepted A no single move with
-- room lowers the metric (machine-half). Rests on Reached, NeverHigher and Optimum. Assumes nothing.
use Rattle.std.specs.Prelude.{List}
use Rattle.model.specs.Catalogue.{Limits, Hypergraph, capacities}
use Rattle.model.specs.Machine.{call_a}
use Rattle.model.specs.Sale.{Request, runs, Sale, ran, turn_under}
use Rattle.model.specs.Demand.{Accepted, MachineHalf, reached_by}
use Rattle.guarantees.specs.Ranges.{Few}
use Rattle.guarantees.specs.Reached.{reached, within-capacity}
use Rattle.guarantees.specs.NeverHigher.{never-higher}
use Rattle.guarantees.specs.Optimum.{A-best}

pub machine-half : (limits : Limits) → Few limits → (h : Hypergraph) → Accepted limits h → (calls : List Request) → MachineHalf limits h calls
unfolding turn_under ran
machine-half limits few h a calls = record {
  within-capacity = within-capacity limits few h a calls;
  never-higher = λ before later c q searching accepted.
      let b : Sale = reached_by limits h before in
      never-higher b.graph (capacities b.graph) b.state c (reached limits few h a before).held.legal searching;
  locally-best = λ before later q accepted.
      let b : Sale = reached_by limits h before in
      A-best b.graph (capacities b.graph) b.state (reached limits few h a before).held.legal accepted;
}
