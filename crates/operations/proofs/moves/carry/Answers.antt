-- `carry`: the blocks' weights, then the running tables.
use Rattle.operations.specs.Move.{shifts-as, shifted_as}
use Rattle.operations.proofs.moves.carry.Goals as goal

pub shift_load-requires : goal.shift_load-requires
shift_load-requires c =
    shifts-as c.args.loads.now c.from.ensures c.from-2.ensures c.from-3.ensures c.requires.shifts

pub move_vertex-requires : goal.move_vertex-requires
move_vertex-requires c =
    c.requires.moves

pub returns : goal.returns
returns c =
    record { move_does = c.move_vertex.ensures; loads_after = shifted_as c.args.loads.now c.from.ensures c.from-2.ensures c.from-3.ensures c.shift_load.ensures }
