use Rattle.std.proofs.Common.{rules}
use Rattle.search_moves.specs.Marks.{spread-law, covered-then}
use Rattle.search_moves.proofs.marks.spread.Goals as goal

pub mark_nets-requires : goal.mark_nets-requires
mark_nets-requires c = search (rules, covered-then)

pub returns : goal.returns
returns c =
    (spread-law c.args.u c.take.ensures c.put.ensures c.mark_nets.ensures.0, c.mark_nets.ensures.1)
