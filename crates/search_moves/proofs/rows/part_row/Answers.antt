use Rattle.std.proofs.Common.{sym, ◌∙◌}
use Rattle.search_moves.specs.Parted.{parted-stays, parted-leaves}
use Rattle.search_moves.proofs.rows.part_row.Goals as goal

pub returns-then-is_pin : goal.returns-then-is_pin
returns-then-is_pin c =
    parted-stays c.args.bits.now c.args.u c.args.v c.args.e c.requires.5 c.put.ensures (sym c.is_pin.ensures ∙ c.if-is_pin.true)

pub returns : goal.returns
returns c =
    parted-leaves c.args.bits.now c.args.u c.args.v c.args.e c.requires.5 c.put.ensures (sym c.is_pin.ensures ∙ c.if-is_pin.false) c.take.ensures
