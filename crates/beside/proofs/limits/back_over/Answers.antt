use Rattle.std.proofs.Common.{arith}
use Rattle.model.specs.Lent.{two}
use Rattle.beside.specs.Called.{back_none, back_some}
use Rattle.beside.proofs.limits.back_over.Goals as goal

pub returns-then-at-eq0 : goal.returns-then-at-eq0
returns-then-at-eq0 c = back_none c.args.loads.now c.args.weights.now c.args.rooms.now (two c.args.journal.vertices c.args.journal.blocks c.args.journal.len) c.if-at-eq0.true

pub overflow_sub-b : goal.overflow_sub-b
overflow_sub-b c = omega (arith, c.from-b.ensures, c.requires.block_in (omega (arith, c.if-at-eq0.false)))

pub offset_bounds-rooms-b : goal.offset_bounds-rooms-b
offset_bounds-rooms-b c = omega (arith, c.from-b.ensures, c.requires.block_in (omega (arith, c.if-at-eq0.false)))

pub bounds-rooms-b : goal.bounds-rooms-b
bounds-rooms-b c = omega (arith, c.from-b.ensures, c.requires.block_in (omega (arith, c.if-at-eq0.false)))

pub returns : goal.returns
returns c = back_some c.args.loads.now c.args.weights.now c.args.rooms.now (two c.args.journal.vertices c.args.journal.blocks c.args.journal.len) c.if-at-eq0.false c.from-v.result c.from-b.result c.from-v.ensures c.from-b.ensures (rw c.from.ensures at c.fits.ensures)
