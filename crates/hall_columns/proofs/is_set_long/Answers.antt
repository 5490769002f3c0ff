-- `hall_columns::is_set_long` meets its contract.
use Rattle.std.proofs.Common.{arith, refl}
use Rattle.hall_columns.proofs.is_set_long.Goals as goal

pub offset_bounds-weights-c : goal.offset_bounds-weights-c
offset_bounds-weights-c c = omega (arith, c.requires.0)

pub bounds-weights-c : goal.bounds-weights-c
bounds-weights-c c = omega (arith, c.requires.0, c.requires.1.weights-four)

pub offset_bounds-blocks-c : goal.offset_bounds-blocks-c
offset_bounds-blocks-c c = omega (arith, c.requires.0)

pub bounds-blocks-c : goal.bounds-blocks-c
bounds-blocks-c c = omega (arith, c.requires.0, c.requires.1.blocks-four)

pub offset_bounds-aboves-c : goal.offset_bounds-aboves-c
offset_bounds-aboves-c c = omega (arith, c.requires.0)

pub bounds-aboves-c : goal.bounds-aboves-c
bounds-aboves-c c = omega (arith, c.requires.0, c.requires.1.aboves-four)

pub offset_bounds-fixed-c : goal.offset_bounds-fixed-c
offset_bounds-fixed-c c = omega (arith, c.requires.0)

pub bounds-fixed-c : goal.bounds-fixed-c
bounds-fixed-c c = omega (arith, c.requires.0, c.requires.1.fixed-four)

pub offset_bounds-loadedpins-c : goal.offset_bounds-loadedpins-c
offset_bounds-loadedpins-c c = omega (arith, c.requires.0)

pub bounds-loadedpins-c : goal.bounds-loadedpins-c
bounds-loadedpins-c c = omega (arith, c.requires.0, c.requires.1.loaded_pins-four)

pub offset_bounds-presentpins-c : goal.offset_bounds-presentpins-c
offset_bounds-presentpins-c c = omega (arith, c.requires.0)

pub bounds-presentpins-c : goal.bounds-presentpins-c
bounds-presentpins-c c = omega (arith, c.requires.0, c.requires.1.present_pins-four)

pub offset_bounds-firsts-c : goal.offset_bounds-firsts-c
offset_bounds-firsts-c c = omega (arith, c.requires.0)

pub bounds-firsts-c : goal.bounds-firsts-c
bounds-firsts-c c = omega (arith, c.requires.0, c.requires.1.firsts-four)

pub offset_bounds-loadedsizes-c : goal.offset_bounds-loadedsizes-c
offset_bounds-loadedsizes-c c = omega (arith, c.requires.0)

pub bounds-loadedsizes-c : goal.bounds-loadedsizes-c
bounds-loadedsizes-c c = omega (arith, c.requires.0, c.requires.1.loaded_sizes-four)

pub offset_bounds-presentsizes-c : goal.offset_bounds-presentsizes-c
offset_bounds-presentsizes-c c = omega (arith, c.requires.0)

pub bounds-presentsizes-c : goal.bounds-presentsizes-c
bounds-presentsizes-c c = omega (arith, c.requires.0, c.requires.1.present_sizes-four)

pub offset_bounds-counts-c : goal.offset_bounds-counts-c
offset_bounds-counts-c c = omega (arith, c.requires.0)

pub bounds-counts-c : goal.bounds-counts-c
bounds-counts-c c = omega (arith, c.requires.0, c.requires.1.counts-four)

pub offset_bounds-gains-c : goal.offset_bounds-gains-c
offset_bounds-gains-c c = omega (arith, c.requires.0)

pub bounds-gains-c : goal.bounds-gains-c
bounds-gains-c c = omega (arith, c.requires.0, c.requires.1.gains-four)

pub offset_bounds-index-c : goal.offset_bounds-index-c
offset_bounds-index-c c = omega (arith, c.requires.0)

pub bounds-index-c : goal.bounds-index-c
bounds-index-c c = omega (arith, c.requires.0, c.requires.1.index-four)

pub offset_bounds-visited-c : goal.offset_bounds-visited-c
offset_bounds-visited-c c = omega (arith, c.requires.0)

pub bounds-visited-c : goal.bounds-visited-c
bounds-visited-c c = omega (arith, c.requires.0, c.requires.1.visited-four)

pub returns : goal.returns
returns c = c.is_long.ensures _ refl
