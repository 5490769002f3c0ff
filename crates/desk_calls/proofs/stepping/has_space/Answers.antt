use Rattle.std.proofs.Common.{arith, ap, not}
use Rattle.std.proofs.lemmas.Bool.{not-true, not-false}
use Rattle.desk_calls.specs.Late.{room-no, room-yes, known-session}
use Rattle.desk_calls.proofs.stepping.has_space.Goals as goal

pub returns-then-not-is_known : goal.returns-then-not-is_known
returns-then-not-is_known c = let a = c.args in room-no a.loads.now a.cap a.k a.bales a.session c.is_known.ensures (not-true _ (ap not c.if-not-is_known.true))

pub overflow_sub-session : goal.overflow_sub-session
overflow_sub-session c = omega (arith, known-session c.args.k c.args.session c.is_known.ensures (not-false _ (ap not c.if-not-is_known.false)))

pub bounds-loads-session : goal.bounds-loads-session
bounds-loads-session c = omega (arith, c.requires, known-session c.args.k c.args.session c.is_known.ensures (not-false _ (ap not c.if-not-is_known.false)))

pub offset_bounds-loads-session : goal.offset_bounds-loads-session
offset_bounds-loads-session c = omega (arith, c.requires, known-session c.args.k c.args.session c.is_known.ensures (not-false _ (ap not c.if-not-is_known.false)))

pub returns : goal.returns
returns c = let a = c.args in room-yes a.loads.now a.cap a.k a.bales a.session c.is_known.ensures (not-false _ (ap not c.if-not-is_known.false)) (rw c.from.ensures at c.fits.ensures)
