-- `coarsen_once`: the pair that the tables give is model's; where there is one, it may be contracted, the stack has room for it, and the bounds
-- that the choice leaves are those of the tables after it.
use Rattle.std.proofs.Common.{arith, refl, None}
use Rattle.best_contraction.specs.JoinPair.{join_or}
use Rattle.coarsening.specs.Linked.{tables-ok}
use Rattle.coarsening.specs.Coarsen.{once-none, once_join, once-room, once-bounds, pair_ok}
use Rattle.coarsening.proofs.coarsen_once.Goals as goal

pub plan_join-requires : goal.plan_join-requires
plan_join-requires c =
    let p = c.requires in
    let s = p.once_ok.1.here.stands.sound in record { tables_ok = tables-ok s p.once_ok.1.here.owned; blank = (p.blank.0, omega (arith, once-room p.once_ok.1), s.weights-fit); bounded = p.blank.1 }

pub returns-in_default : goal.returns-in_default
returns-in_default c =
    let e = c.in_default.ensures in
    record { by_index = λ loads loaded left some. once-none _ _ _ (join_or None) some e.best_join refl; blank_2 = (e.blank_2, e.planned.none refl) }

pub overflow_sub-u : goal.overflow_sub-u
overflow_sub-u c =
    omega (arith, (rw c.in-Some.is at c.plan_join.ensures.best_join).within (rw c.in-Some.is at c.plan_join.ensures.rated))

pub overflow_sub-v : goal.overflow_sub-v
overflow_sub-v c =
    omega (arith, (rw c.in-Some.is at c.plan_join.ensures.best_join).within (rw c.in-Some.is at c.plan_join.ensures.rated))

pub join-requires : goal.join-requires
join-requires c =
    let p = c.requires.once_ok.1 in
    record { loads = p.loads; loaded = p.loaded; h = p.h; cs = p.c.stack; block = p.c.block; sound = p.here.stands.sound; pair = pair_ok _ _ p.average-is p.here.stands.sound p.here.owned (rw c.in-Some.is at c.plan_join.ensures.best_join) (rw c.in-Some.is at c.plan_join.ensures.rated) }

pub overflow_sub-joinblocks : goal.overflow_sub-joinblocks
overflow_sub-joinblocks c =
    omega (arith, (rw c.in-Some.is at c.plan_join.ensures.best_join).within (rw c.in-Some.is at c.plan_join.ensures.rated))

pub offset_bounds-joinblocks-v : goal.offset_bounds-joinblocks-v
offset_bounds-joinblocks-v c =
    omega (arith, (rw c.in-Some.is at c.plan_join.ensures.best_join).within (rw c.in-Some.is at c.plan_join.ensures.rated), once-room c.requires.once_ok.1)

pub bounds-joinblocks-v : goal.bounds-joinblocks-v
bounds-joinblocks-v c =
    omega (arith, (rw c.in-Some.is at c.plan_join.ensures.best_join).within (rw c.in-Some.is at c.plan_join.ensures.rated), once-room c.requires.once_ok.1)

pub narrow-requires : goal.narrow-requires
narrow-requires c =
    omega (arith, (rw c.in-Some.is at c.plan_join.ensures.best_join).within (rw c.in-Some.is at c.plan_join.ensures.rated), once-room c.requires.once_ok.1)

pub narrow-requires-2 : goal.narrow-requires-2
narrow-requires-2 c =
    omega (arith, (rw c.in-Some.is at c.plan_join.ensures.best_join).within (rw c.in-Some.is at c.plan_join.ensures.rated), once-room c.requires.once_ok.1)

pub push-requires : goal.push-requires
push-requires c =
    let p = c.requires.once_ok.1 in
    omega (arith, once-room p)

pub returns : goal.returns
returns c =
    let p = c.requires.once_ok.1 in
    let e = c.plan_join.ensures in
    let j = c.in-Some.pair in
    let b = (rw c.in-Some.is at c.plan_join.ensures.best_join) in
    let l = (rw c.in-Some.is at c.plan_join.ensures.rated) in
    let t = c.join.ensures in record { by_index = λ loads loaded left some. once_join _ _ _ _ j _ _ _ _ _ some (omega (arith, once-room p)) b l refl refl (t loads loaded) c.narrow.ensures c.narrow-2.ensures c.push.ensures; blank_2 = (e.blank_2, once-bounds p _ j _ refl refl b l (t p.loads p.loaded) (rw c.in-Some.is at e.planned)) }
