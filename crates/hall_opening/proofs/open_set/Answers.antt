-- `hall_opening::open_set` meets its contract: the set c is opened and put in its place.
use Rattle.std.proofs.Common.{arith, refl}
use Rattle.hall_opening.proofs.open_set.Goals as goal

pub offset_bounds-counts-c : goal.offset_bounds-counts-c
offset_bounds-counts-c c = omega (arith, c.requires.known)

pub offset_bounds-visited-c : goal.offset_bounds-visited-c
offset_bounds-visited-c c = omega (arith, c.requires.known)

pub offset_bounds-gains-c : goal.offset_bounds-gains-c
offset_bounds-gains-c c = omega (arith, c.requires.known)

pub offset_bounds-index-c : goal.offset_bounds-index-c
offset_bounds-index-c c = omega (arith, c.requires.known)

pub offset_bounds-bits-c : goal.offset_bounds-bits-c
offset_bounds-bits-c c = omega (arith, c.requires.known)

pub offset_bounds-loads-c : goal.offset_bounds-loads-c
offset_bounds-loads-c c = omega (arith, c.requires.known)

pub offset_bounds-presentpins-c : goal.offset_bounds-presentpins-c
offset_bounds-presentpins-c c = omega (arith, c.requires.known)

pub bounds-presentpins-c : goal.bounds-presentpins-c
bounds-presentpins-c c = omega (arith, c.requires.known, c.requires.whole.presentpins-long)

pub offset_bounds-presentsizes-c : goal.offset_bounds-presentsizes-c
offset_bounds-presentsizes-c c = omega (arith, c.requires.known)

pub bounds-presentsizes-c : goal.bounds-presentsizes-c
bounds-presentsizes-c c = omega (arith, c.requires.known, c.requires.whole.presentsizes-long)

pub offset_bounds-blocks-c : goal.offset_bounds-blocks-c
offset_bounds-blocks-c c = omega (arith, c.requires.known)

pub bounds-blocks-c : goal.bounds-blocks-c
bounds-blocks-c c = omega (arith, c.requires.known, c.requires.whole.blocks-long)

pub offset_bounds-weights-c : goal.offset_bounds-weights-c
offset_bounds-weights-c c = omega (arith, c.requires.known)

pub bounds-weights-c : goal.bounds-weights-c
bounds-weights-c c = omega (arith, c.requires.known, c.requires.whole.weights-long)

pub offset_bounds-fixed-c : goal.offset_bounds-fixed-c
offset_bounds-fixed-c c = omega (arith, c.requires.known)

pub bounds-fixed-c : goal.bounds-fixed-c
bounds-fixed-c c = omega (arith, c.requires.known, c.requires.whole.fixed-long)

pub offset_bounds-firsts-c : goal.offset_bounds-firsts-c
offset_bounds-firsts-c c = omega (arith, c.requires.known)

pub bounds-firsts-c : goal.bounds-firsts-c
bounds-firsts-c c = omega (arith, c.requires.known, c.requires.whole.firsts-long)

pub offset_bounds-netweights-c : goal.offset_bounds-netweights-c
offset_bounds-netweights-c c = omega (arith, c.requires.known)

pub bounds-netweights-c : goal.bounds-netweights-c
bounds-netweights-c c = omega (arith, c.requires.known, c.requires.whole.netweights-long)

pub open_tables-requires : goal.open_tables-requires
open_tables-requires c = c.requires.can

pub returns : goal.returns
returns c = record { after = _; put = refl; opens = c.open_tables.ensures }
