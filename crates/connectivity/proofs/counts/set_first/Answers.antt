-- `set_first` by the law of a bit made by a shift of one or of nothing.
use Rattle.connectivity.specs.Law.{set_first}
use Rattle.connectivity.proofs.counts.set_first.Goals as goal

pub returns : goal.returns
returns c =
    let a = c.args in
    set_first a.m a.s a.had c.one_if_none.result c.ranges.m.fits c.requires.s_bound c.requires.s_value c.one_if_none.ensures
