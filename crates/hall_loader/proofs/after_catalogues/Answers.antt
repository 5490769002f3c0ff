-- `hall_loader::after_catalogues` meets its contract.
use Rattle.std.proofs.Common.{arith, sym, ◌∙◌}
use Rattle.hall_loader.proofs.Halls.{drafts-over, drafts-below}
use Rattle.hall_loader.proofs.after_catalogues.Goals as goal

pub drafts_above-requires : goal.drafts_above-requires
drafts_above-requires c = c.requires.2

pub overflow_sub-line : goal.overflow_sub-line
overflow_sub-line c = omega (arith, c.requires.0.low)

pub returns-then-drafts_above : goal.returns-then-drafts_above
returns-then-drafts_above c = rw c.at.ensures (drafts-over _ _ _ _ _ _ _ _ _ _ (sym c.if-drafts_above.true ∙ c.drafts_above.ensures))

pub read_led_calls-requires : goal.read_led_calls-requires
read_led_calls-requires c =
    let p = c.requires in
    (p.0.inside, p.1.short, p.0.high, p.1.calls-long, p.1.operands-long)

pub returns : goal.returns
returns c = drafts-below _ _ _ _ _ _ _ _ _ _ (sym c.if-drafts_above.false ∙ c.drafts_above.ensures) _ c.read_led_calls.ensures
