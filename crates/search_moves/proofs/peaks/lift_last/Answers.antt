use Rattle.std.proofs.Common.{ap, ◌∙◌, ℕ, ◌+◌, ◌*◌, ◌-◌, get_or}
use Rattle.search_moves.specs.Lifting.{higher-none}
use Rattle.search_moves.proofs.peaks.lift_last.Goals as goal

pub returns-then-counts-e-ne1 : goal.returns-then-counts-e-ne1
returns-then-counts-e-ne1 c =
    let a = c.args in
    (higher-none a.peaks.now, λ q. absurd (c.if-counts-e-ne1.true (ap (λ (z : ℕ). get_or a.counts.now (16 * a.e + (z - 1)) 0) c.from.ensures ∙ q)))

pub returns : goal.returns
returns c = (c.raise_last.ensures.0, λ q. c.raise_last.ensures.1)
