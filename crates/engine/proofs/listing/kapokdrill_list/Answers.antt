use Rattle.std.proofs.Common.{arith, refl, sym, ◌∙◌}
use Rattle.model.specs.Catalogue.{main_limits}
use Rattle.refusal.proofs.Numbers.{never-none}
use Rattle.columns.specs.Entry.{long-is}
use Rattle.engine.specs.Listing.{untouched-8, untouched-list, list-served}
use Rattle.engine.proofs.listing.kapokdrill_list.Goals as goal

pub returns-then-not-is_long : goal.returns-then-not-is_long
returns-then-not-is_long c = untouched-8 main_limits _ _ _ _ _ (c.is_long.ensures _ refl) c.if-not-is_long.true c.refused_list.ensures.0 c.refused_list.ensures.1 c.refused_list.ensures.2

pub returns-in-Err : goal.returns-in-Err
returns-in-Err c =
    untouched-list main_limits _ _ _ _ _ (c.is_long.ensures _ refl) c.if-not-is_long.false c.in-Err.ensures (never-none c.in-Err.q) c.refused_list-in-Err.ensures.0 c.refused_list-in-Err.ensures.1 c.refused_list-in-Err.ensures.2

pub work_list-requires : goal.work_list-requires
work_list-requires c =
    (long-is main_limits _ _ _ _ _ _ (record { lots-few = omega arith; sessions-few = omega arith; few = record { nets-few = omega arith; pins-few = omega arith } }) (c.is_long.ensures _ refl) c.if-not-is_long.false, sym c.in_default.ensures)

pub returns : goal.returns
returns c =
    list-served main_limits _ _ _ _ _ (c.is_long.ensures _ refl) _ c.if-not-is_long.false (sym c.in_default.ensures) c.work_list.ensures
