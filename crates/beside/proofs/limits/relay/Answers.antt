use Rattle.beside.specs.Called.{relay-other, relay-over, relay-full, relay-more}
use Rattle.beside.proofs.limits.relay.Goals.{else-letter-eq-M-via-then-letter-eq-M+else-under_cap, else-letter-eq-M-via-else-letter-eq-M}
use Rattle.beside.proofs.limits.relay.Goals as goal
use Rattle.std.proofs.Common.{sym, ◌∙◌}

pub returns-then-under_cap : goal.returns-then-under_cap
returns-then-under_cap c = relay-over c.args.letter _ c.args.refusal c.in-AboveCap.is c.if-letter-eq-M.true (sym c.under_cap.ensures ∙ c.if-under_cap.true)

pub returns-else-letter-eq-M : goal.returns-else-letter-eq-M
returns-else-letter-eq-M c =
    elim c.else-letter-eq-M.branch [
      | else-letter-eq-M-via-then-letter-eq-M+else-under_cap w ↦ relay-full c.args.letter _ c.args.refusal (sym w.under_cap.ensures ∙ w.if-under_cap.false)
      | else-letter-eq-M-via-else-letter-eq-M w ↦ relay-other c.args.letter _ _ w.if-letter-eq-M.false
    ]

pub returns-in_default : goal.returns-in_default
returns-in_default c = relay-more c.args.letter _ c.args.refusal c.in_default.not-AboveCap
