-- `rise`: what a net adds, where both vertices are its pins and where one is.
use Rattle.std.proofs.Common.{◌≡◌, ◌≤◌}
use Rattle.best_contraction.specs.Bound.{near_rise, far_rise}
use Rattle.best_contraction.specs.BoundLaw.{rise-both, rise_one}
use Rattle.best_contraction.proofs.bounds.rise.Goals as goal

pub returns-then-both : goal.returns-then-both
returns-then-both c =
    let h : ((c.saturating_sub-more.result ≡ near_rise c.args.both c.args.w c.args.n) × (c.saturating_sub-more.result ≡ far_rise c.args.both c.args.w c.args.n)) × ((c.saturating_sub-more.result ≤ 536870912) × (c.saturating_sub-more.result ≤ 536870912)) = rise-both _ _ _ c.term-t.result c.saturating_sub.result c.term.result _ c.if-both.true c.term-t.ensures.0 c.saturating_sub.ensures c.term.ensures.0 c.term.ensures.1 c.saturating_sub-more.ensures in
    record { near_value = h.0; near_bound = h.1 }

pub returns : goal.returns
returns c =
    let h : ((c.term-t.result ≡ near_rise c.args.both c.args.w c.args.n) × (0 ≡ far_rise c.args.both c.args.w c.args.n)) × ((c.term-t.result ≤ 536870912) × (0 ≤ 536870912)) = rise_one _ _ _ _ c.if-both.false c.term-t.ensures.0 c.term-t.ensures.1 in
    record { near_value = h.0; near_bound = h.1 }
