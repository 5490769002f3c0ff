-- What the code may count on, in every state that a list of calls reaches from an accepted catalogue (reached-bounds): the stack at most one
-- less than the vertices, the journal no longer than the list, gains and metric in 32 bits, weights and the capacity in 27, ratings in 64, and
-- the numbers of the next answer within their bounds. Rests on the files of bounds. Assumes nothing.
use Rattle.std.specs.Prelude.{ℕ, ◌+◌, ◌-◌, ◌*◌, ◌^◌, ◌≤◌, ◌<◌, List, nat_abs, length}
use Rattle.std.proofs.Common.{arith}
use Rattle.model.specs.Catalogue.{Limits, Hypergraph, vertices, average_weight, capacity}
use Rattle.model.specs.Measure.{weight, block_weight, metric, gain}
use Rattle.model.specs.Machine.{Call, State}
use Rattle.model.specs.Sale.{Request}
use Rattle.model.specs.Search.{rating, call_under}
use Rattle.model.specs.Demand.{Accepted, reached_by}
use Rattle.guarantees.specs.Bounds.{gain-le, rating-le}
use Rattle.guarantees.specs.WeightBounds.{weight-le, block_weight-le, loaded-le, average-le, product_le, capacity-le}
use Rattle.guarantees.specs.StateBounds.{stack-le, Listed}
use Rattle.guarantees.specs.AnswerBounds.{Bounded, bounded-call, metric-in}
use Rattle.guarantees.specs.Ranges.{Few, Ranges}
use Rattle.guarantees.specs.Reached.{reached, journal-le}

pub record Small (h : Hypergraph) (n : ℕ) (s : State) : Type 0 where
  pub stack-short : length s.stack ≤ vertices h - 1
  pub journal-short : length s.journal ≤ n
  pub journal-real : Listed h s.journal
  pub gains : (v t : ℕ) → nat_abs (gain h s.stack s.block v t) < 2 ^ 31
  pub metrics : (p : ℕ → ℕ) → metric h s.stack p < 2 ^ 31
  pub weights : (v : ℕ) → weight h s.stack v < 2 ^ 27
  pub block-weights : (b : ℕ) → block_weight h s.stack s.block b < 2 ^ 27
  pub averages : average_weight h < 2 ^ 27
  pub capacities : capacity h < 2 ^ 27
  pub products : (1000 + h.imbalance) * average_weight h < 2 ^ 64
  pub ratings : (u v : ℕ) → rating h s.stack u v < 2 ^ 64
  pub answers : (ceiling : ℕ → ℕ) (c : Call) → Bounded (call_under h ceiling s c).answer

pub reached-bounds : (limits : Limits) → limits.vertex_limit ≤ 1024 → limits.block_limit ≤ 16 → Few limits → (h : Hypergraph) → Accepted limits h → (calls : List Request)
    → Small (reached_by limits h calls).graph (length calls) (reached_by limits h calls).state
reached-bounds limits small narrow few h₀ a calls =
    let h : Hypergraph = (reached_by limits h₀ calls).graph in
    let s : State = (reached_by limits h₀ calls).state in
    let t = reached limits few h₀ a calls in
    let r : Ranges limits h = t.ranges in
    let k = t.held.legal in
    record {
      stack-short = stack-le h s.stack k.sound k.inside;
      journal-short = journal-le limits h₀ calls;
      journal-real = t.listed;
      gains = λ v t. omega (arith, gain-le limits narrow h r.loaded r.nets-high s.stack s.block v t);
      metrics = λ p. omega (arith, metric-in limits small narrow h r s.stack p);
      weights = λ v. omega (arith, weight-le h s.stack v, loaded-le limits small h r);
      block-weights = λ b. omega (arith, block_weight-le h s.stack s.block b, loaded-le limits small h r);
      averages = omega (arith, average-le limits small h r);
      capacities = omega (arith, capacity-le limits small h r);
      products = omega (arith, product_le limits small h r);
      ratings = λ u v. omega (arith, rating-le limits h r.loaded r.nets-high s.stack u v);
      answers = λ ceiling c. bounded-call limits small narrow h r ceiling s c k t.listed;
    }
