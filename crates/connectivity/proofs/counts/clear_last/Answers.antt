-- `clear_last` by the law of a bit made by a shift of one or of nothing.
use Rattle.connectivity.specs.Law.{clear-last}
use Rattle.connectivity.proofs.counts.clear_last.Goals as goal

pub returns : goal.returns
returns c =
    let a = c.args in
    clear-last a.m a.s a.left c.one_if_none.result c.ranges.m.fits c.requires.s_bound c.requires.s_value c.one_if_none.ensures
