use Rattle.std.proofs.Common.{sym, ◌∙◌, ap, ℕ, ◌-◌}
use Rattle.fixed.specs.Stacked.{joined_free, joined-fixed}
use Rattle.fixed.proofs.starting.join_fixed.Goals as goal

pub returns-then-is_pin : goal.returns-then-is_pin
returns-then-is_pin c =
    joined-fixed c.args.into c.args.gone (c.from.result - 1) (c.from-v.result - 1)
    (ap (λ (z : ℕ). z - 1) c.from.ensures) (ap (λ (z : ℕ). z - 1) c.from-v.ensures)
    (sym c.is_pin.ensures ∙ c.if-is_pin.true) c.take.ensures c.put.ensures

pub returns-else-is_pin : goal.returns-else-is_pin
returns-else-is_pin c =
    joined_free c.args.marks.now c.args.into c.args.gone (c.from-v.result - 1)
    (ap (λ (z : ℕ). z - 1) c.from-v.ensures) (sym c.is_pin.ensures ∙ c.if-is_pin.false)
