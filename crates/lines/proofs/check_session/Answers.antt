-- `lines::check_session` meets its contract.
use Rattle.std.proofs.Common.{ℕ, ap, sym, ◌∙◌}
use Rattle.model.specs.Grammar.{within}
use Rattle.lines.proofs.check_session.Goals as goal

pub returns-then-not-between : goal.returns-then-not-between
returns-then-not-between c =
    rw (ap (λ (m : ℕ). within 1 m c.args.block) (sym c.from.ensures) ∙ sym c.between.ensures ∙ c.if-not-between.true)

pub returns : goal.returns
returns c =
    rw (ap (λ (m : ℕ). within 1 m c.args.block) (sym c.from.ensures) ∙ sym c.between.ensures ∙ c.if-not-between.false)
