use Rattle.std.proofs.Common.{ap, ◌∙◌}
use Rattle.refusal.specs.Number.{number_of, only-14}
use Rattle.desk_calls.specs.Late.{by-not, by-25, by-14}
use Rattle.desk_calls.proofs.stepping.relay.Goals as goal

pub returns-then-has_space : goal.returns-then-has_space
returns-then-has_space c = by-25 _ _ c.has_space.ensures c.if-has_space.true (ap number_of c.in-AboveCap.is)

pub returns-else-has_space : goal.returns-else-has_space
returns-else-has_space c = ap number_of c.in-AboveCap.is ∙ by-14 _ _ c.has_space.ensures c.if-has_space.false (ap number_of c.in-AboveCap.is)

pub returns-in_default : goal.returns-in_default
returns-in_default c = by-not _ _ (λ q. c.in_default.not-AboveCap (only-14 _ q))
