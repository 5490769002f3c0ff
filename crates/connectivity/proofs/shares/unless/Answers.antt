-- `unless` by its definition, test by test.
use Rattle.std.proofs.Common.{sym, ap, ◌∙◌, Bool, cond, pos, to_z-of_z}
use Rattle.connectivity.proofs.shares.unless.Goals as goal

pub returns-then-own : goal.returns-then-own
returns-then-own c = sym (ap (λ (t : Bool). cond t (pos 0) c.args.share) c.if-own.true)

pub returns-else-own : goal.returns-else-own
returns-else-own c = to_z-of_z c.ranges.share ∙ sym (ap (λ (t : Bool). cond t (pos 0) c.args.share) c.if-own.false)
