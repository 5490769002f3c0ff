use Rattle.std.proofs.Common.{arith, ◌∙◌, ap, ℕ, ◌-◌, refl, subst}
use Rattle.hall_rooms.specs.Rooms.{Leaves, leaves-more}
use Rattle.hall_rooms.proofs.rooms.Goals as goal

pub loop-t-init : goal.loop-t-init
loop-t-init c = (omega arith, record { len = refl; left = λ t l. absurd (omega arith) })

pub others_bear-requires : goal.others_bear-requires
others_bear-requires c = (c.requires.0, c.requires.1, c.requires.2, omega arith, c.requires.3 c.loop-t.t (omega arith))

pub bounds-row-t : goal.bounds-row-t
bounds-row-t c = omega (arith, c.loop-t.invariant.1.len)

pub loop-t-preserved : goal.loop-t-preserved
loop-t-preserved c = (omega arith, leaves-more c.args.limit c.args.loads.now c.args.ks c.args.count c.args.c c.loop-t.t c.loop-t.row c.saturating_sub.result (omega arith) (c.saturating_sub.ensures ∙ ap (λ (n : ℕ). c.args.limit - n) c.others_bear.ensures) c.loop-t.invariant.1)

pub returns : goal.returns
returns c = subst (λ (n : ℕ). Leaves c.args.limit c.args.loads.now c.args.ks c.args.count c.args.c n c.loop-t.row) (omega (arith, c.loop-t.invariant.0)) c.loop-t.invariant.1
