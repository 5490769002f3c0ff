use Rattle.std.proofs.Common.{ℕ, ◌-◌, arith, sym, ap, ◌∙◌}
use Rattle.laws.specs.Sum.{sum-zero}
use Rattle.hall_rooms.specs.Rooms.{besides, besides-le}
use Rattle.hall_led.specs.Others.{lots_at, lots_beside, lots-more}
use Rattle.hall_led.proofs.others.lots_left.Goals as goal

pub loop-d-init : goal.loop-d-init
loop-d-init c = (omega arith, sym (sum-zero _), omega arith)

pub offset_bounds-courses-d : goal.offset_bounds-courses-d
offset_bounds-courses-d c = omega (arith, c.loop-d-test.true, c.requires.0)

pub bounds-courses-d : goal.bounds-courses-d
bounds-courses-d c = omega (arith, c.loop-d-test.true, c.requires.0, c.requires.1)

pub overflow_add-all : goal.overflow_add-all
overflow_add-all c = omega (arith, c.requires.0, c.loop-d-test.true, c.loop-d.invariant.2, c.share-all.ensures ∙ ap (besides c.args.c c.loop-d.d) c.saturating_sub.ensures, besides-le c.args.c c.loop-d.d (lots_at c.args.courses c.loop-d.d) 1024 (omega (arith, (c.requires.2 c.loop-d.d c.loop-d-test.true).0)))

pub loop-d-preserved : goal.loop-d-preserved
loop-d-preserved c = (omega (arith, c.loop-d-test.true), lots-more c.args.courses c.args.c c.loop-d.d c.loop-d.invariant.1 (c.share-all.ensures ∙ ap (besides c.args.c c.loop-d.d) c.saturating_sub.ensures), omega (arith, c.loop-d.invariant.2, c.share-all.ensures ∙ ap (besides c.args.c c.loop-d.d) c.saturating_sub.ensures, besides-le c.args.c c.loop-d.d (lots_at c.args.courses c.loop-d.d) 1024 (omega (arith, (c.requires.2 c.loop-d.d c.loop-d-test.true).0))))

pub returns : goal.returns
returns c = c.saturating_sub-2.ensures ∙ ap (λ (n : ℕ). 1024 - n) (c.loop-d.invariant.1 ∙ ap (λ (n : ℕ). lots_beside c.args.courses n c.args.c) (omega (arith, c.loop-d.invariant.0, c.loop-d-test.false)))
