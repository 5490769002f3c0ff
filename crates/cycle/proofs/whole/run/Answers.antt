-- `run`: the levels, then P on the tables that they leave.
use Rattle.std.proofs.Common.{arith, refl}
use Rattle.index.specs.Indexed.{kept_then}
use Rattle.cycle.specs.Whole.{polish-asks, done}
use Rattle.cycle.proofs.whole.run.Goals as goal

pub polish-p-requires : goal.polish-p-requires
polish-p-requires c =
    record { polish_ok = polish-asks _ _ _ c.requires.cycle_ok c.descend-d.ensures.levels; n_in_bounds = omega (arith, c.requires.n_in_bounds, c.descend-d.ensures.kept.len) }

pub returns : goal.returns
returns c =
    record { does = done refl refl refl refl refl c.descend-d.ensures.levels (c.polish-p.ensures.by_index _ _); kept = kept_then c.descend-d.ensures.kept c.polish-p.ensures.kept }
