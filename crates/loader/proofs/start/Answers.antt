-- `loader::start`: the loaded marks are copied, and can then be put in order.
use Rattle.std.proofs.Common.{get_or, arith}
use Rattle.pins.specs.Sorting.{sortable-as}
use Rattle.loader.proofs.Fill.{filled_in, filled-zero}
use Rattle.loader.proofs.start.Goals as goal

pub sort_nets-requires : goal.sort_nets-requires
sort_nets-requires c =
    let p = c.requires in
    let a = c.args in
    record { m_in_bounds = p.3; m_in_bounds_2 = omega (arith, p.2, p.5, c.copy.ensures.as_long); sortable_nets = sortable-as a.loadedpins.now _ a.loadedsizes.now a.nets (λ i h. filled_in a.m (λ i. get_or a.loadedpins.now i 0) a.presentpins.now _ c.copy.ensures i (omega (arith, p.5)) (omega (arith, p.2, p.5))) p.6 }

pub returns : goal.returns
returns c =
    let a = c.args in (
      filled-zero a.vertices a.aboves.now _ (omega arith) (c.fill.ensures.after (λ y e. e)),
      record { copy = _; copied = c.copy.ensures; sorted = c.sort_nets.ensures },
      c.copy-2.ensures,
    )
