use Rattle.std.proofs.Common.{arith, sym, ◌∙◌}
use Rattle.search_moves.specs.Marks.{marked-one, marked-moved, nets-same, nets-beside}
use Rattle.search_moves.proofs.marks.mark_vertex.Goals as goal

pub returns-then-is_pin : goal.returns-then-is_pin
returns-then-is_pin c =
    (marked-moved c.args.marks.now c.args.x (sym c.is_pin.ensures ∙ c.if-is_pin.true), nets-same c.args.marks.now)

pub returns : goal.returns
returns c =
    (marked-one c.args.x c.requires.1 (sym c.is_pin.ensures ∙ c.if-is_pin.false) c.put.ensures, nets-beside (omega arith) c.put.ensures)
