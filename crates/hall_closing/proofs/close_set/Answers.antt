-- `hall_closing::close_set` meets its contract: the report of the set c is the one of its tables.
use Rattle.std.proofs.Common.{arith}
use Rattle.hall_closing.proofs.close_set.Goals as goal

pub offset_bounds-blocks-c : goal.offset_bounds-blocks-c
offset_bounds-blocks-c c = omega (arith, c.requires.known)

pub bounds-blocks-c : goal.bounds-blocks-c
bounds-blocks-c c = omega (arith, c.requires.known, c.requires.whole.blocks-long)

pub offset_bounds-aboves-c : goal.offset_bounds-aboves-c
offset_bounds-aboves-c c = omega (arith, c.requires.known)

pub bounds-aboves-c : goal.bounds-aboves-c
bounds-aboves-c c = omega (arith, c.requires.known, c.requires.whole.aboves-long)

pub offset_bounds-visited-c : goal.offset_bounds-visited-c
offset_bounds-visited-c c = omega (arith, c.requires.known)

pub bounds-visited-c : goal.bounds-visited-c
bounds-visited-c c = omega (arith, c.requires.known, c.requires.whole.visited-long)

pub put_closing-requires : goal.put_closing-requires
put_closing-requires c = c.requires.fits

pub returns : goal.returns
returns c = c.put_closing.ensures
