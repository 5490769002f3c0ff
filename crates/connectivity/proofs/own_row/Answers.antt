-- `own_row`: nothing for no pin, else the row of shares.
use Rattle.std.proofs.Common.{arith}
use Rattle.connectivity.specs.Steps.{own-none, own-ready, own-some}
use Rattle.connectivity.proofs.own_row.Goals as goal

pub returns-then-a-eq0 : goal.returns-then-a-eq0
returns-then-a-eq0 c = own-none c.args.take c.requires c.if-a-eq0.true

pub share_row-requires : goal.share_row-requires
share_row-requires c =
    record { ready = own-ready c.args.take c.requires (omega arith); q_bound = omega (arith, c.requires.fit, c.requires.counts-fit) }

pub returns : goal.returns
returns c =
    own-some c.args.take c.requires (omega arith) c.share_row.ensures
