-- `plan_join`: without a pair the bounds stay; with one they are raised.
use Rattle.std.proofs.Common.{arith, refl, None}
use Rattle.best_contraction.specs.Bound.{rise_of}
use Rattle.best_contraction.specs.JoinPair.{join_or, best_join-none}
use Rattle.best_contraction.specs.BoundLaw.{planned-none, planned-some}
use Rattle.best_contraction.proofs.join.plan_join.Goals as goal

pub best_join-best-requires : goal.best_join-best-requires
best_join-best-requires c =
    c.requires

pub returns-then-rating-eq0 : goal.returns-then-rating-eq0
returns-then-rating-eq0 c =
    let a = c.args in
    let b = c.best_join-best in record { best_join = best_join-none _ _ b.result b.ensures.best_join c.if-rating-eq0.true; rated = tt; planned = planned-none (rise_of a.bits.now a.presentpins.now a.firsts.now a.presentsizes.now a.net_weights.now a.blocks.now a.m) (join_or None) refl b.ensures.bounded_2; blank_2 = b.ensures.blank_2 }

pub lift-requires : goal.lift-requires
lift-requires c =
    let p = c.requires in
    let b = c.best_join-best in
    let i = b.ensures.best_join.within (omega (arith, c.if-rating-eq0.false)) in record { tables_ok = p.tables_ok; bounds_len = (b.ensures.bounded_2.len, i.0, i.1, i.2, i.3) }

pub returns : goal.returns
returns c =
    let a = c.args in
    let b = c.best_join-best in record { best_join = b.ensures.best_join; rated = omega (arith, c.if-rating-eq0.false); planned = planned-some (rise_of a.bits.now a.presentpins.now a.firsts.now a.presentsizes.now a.net_weights.now a.blocks.now a.m) b.result (omega (arith, c.if-rating-eq0.false)) b.ensures.bounded_2 c.lift.ensures; blank_2 = b.ensures.blank_2 }
