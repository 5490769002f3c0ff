-- `refine_once`: the undo, with the rows of the nets made right, then the walk from the parted pair, which is on the board.
use Rattle.std.proofs.Common.{refl}
use Rattle.search_moves.specs.Rows.{rows-past}
use Rattle.cycle.specs.Refine.{walk-asks, parts, rows-ask, rows-hold}
use Rattle.cycle.proofs.refining.refine_once.Goals as goal

pub split-requires : goal.split-requires
split-requires c =
    let p = c.requires.part_ok in record { loads = c.args.loads.now; splits = record { h = p.h; cs = p.cs; block = p.block; sound = p.sound } }

pub part_rows-requires : goal.part_rows-requires
part_rows-requires c =
    rows-ask refl refl c.requires.part_ok (c.split.ensures _) c.requires.rows_are

pub walk-requires : goal.walk-requires
walk-requires c =
    let rows = rows-hold refl refl c.requires.part_ok (c.split.ensures _) c.requires.rows_are c.part_rows.ensures in record { walk_ok = walk-asks _ _ _ c.requires.part_ok (c.split.ensures _); n_in_bounds = c.requires.n_in_bounds; rows_past = rows-past 12 rows }

pub returns : goal.returns
returns c =
    let rows = rows-hold refl refl c.requires.part_ok (c.split.ensures _) c.requires.rows_are c.part_rows.ensures in record { parts = parts refl refl refl refl refl (c.split.ensures _) (c.walk.ensures.by_index _ _); kept = c.walk.ensures.kept; rows_are_2 = rows }
