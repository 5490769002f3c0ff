-- `refuses_withdraw` meets its contract: each arm is that of X's refusals in their order.
use Rattle.std.proofs.Common.{arith, ◌≡◌, ◌∙◌, ap, not}
use Rattle.change_rules.specs.Refusal.{known_in, out-9, out-16, out-10, out-0}
use Rattle.change_rules.proofs.refusals.refuses_withdraw.Goals as goal

pub returns-then-not-is_known : goal.returns-then-not-is_known
returns-then-not-is_known c =
    let a = c.args in out-9 a.blocks.now a.n a.joins a.v c.is_known.ensures (ap not c.if-not-is_known.true)

pub returns-then-joins-gt0 : goal.returns-then-joins-gt0
returns-then-joins-gt0 c =
    let a = c.args in out-16 a.blocks.now a.n a.joins a.v c.is_known.ensures (ap not c.if-not-is_known.false) c.if-joins-gt0.true

pub is_here-requires : goal.is_here-requires
is_here-requires c =
    let a = c.args in omega (arith, known_in a.n a.v c.is_known.ensures (ap not c.if-not-is_known.false))

pub returns-then-not-is_here : goal.returns-then-not-is_here
returns-then-not-is_here c =
    let a = c.args in out-10 a.blocks.now a.n a.joins a.v c.is_known.ensures (ap not c.if-not-is_known.false) (omega (arith, c.if-joins-gt0.false)) c.is_here.ensures (ap not c.if-not-is_here.true)

pub returns : goal.returns
returns c =
    let a = c.args in out-0 a.blocks.now a.n a.joins a.v c.is_known.ensures (ap not c.if-not-is_known.false) (omega (arith, c.if-joins-gt0.false)) c.is_here.ensures (ap not c.if-not-is_here.false)
