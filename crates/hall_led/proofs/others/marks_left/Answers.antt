use Rattle.std.proofs.Common.{ℕ, ◌-◌, arith, sym, ap, ◌∙◌}
use Rattle.laws.specs.Sum.{sum-zero}
use Rattle.hall_rooms.specs.Rooms.{besides-le}
use Rattle.hall_led.specs.Others.{marks_at, marks_beside, marks-more}
use Rattle.hall_led.proofs.others.marks_left.Goals as goal

pub loop-d-init : goal.loop-d-init
loop-d-init c = (omega arith, sym (sum-zero _), omega arith)

pub offset_bounds-courses-d : goal.offset_bounds-courses-d
offset_bounds-courses-d c = omega (arith, c.loop-d-test.true, c.requires.0)

pub bounds-courses-d : goal.bounds-courses-d
bounds-courses-d c = omega (arith, c.loop-d-test.true, c.requires.0, c.requires.1)

pub overflow_add-all : goal.overflow_add-all
overflow_add-all c = omega (arith, c.requires.0, c.loop-d-test.true, c.loop-d.invariant.2, c.share-all.ensures, besides-le c.args.c c.loop-d.d (marks_at c.args.courses c.loop-d.d) 8192 (omega (arith, (c.requires.2 c.loop-d.d c.loop-d-test.true).1)))

pub loop-d-preserved : goal.loop-d-preserved
loop-d-preserved c = (omega (arith, c.loop-d-test.true), marks-more c.args.courses c.args.c c.loop-d.d c.loop-d.invariant.1 c.share-all.ensures, omega (arith, c.loop-d.invariant.2, c.share-all.ensures, besides-le c.args.c c.loop-d.d (marks_at c.args.courses c.loop-d.d) 8192 (omega (arith, (c.requires.2 c.loop-d.d c.loop-d-test.true).1))))

pub returns : goal.returns
returns c = c.saturating_sub.ensures ∙ ap (λ (n : ℕ). 8192 - n) (c.loop-d.invariant.1 ∙ ap (λ (n : ℕ). marks_beside c.args.courses n c.args.c) (omega (arith, c.loop-d.invariant.0, c.loop-d-test.false)))
