-- `share_row`: the first x entries of the row are changed.
use Rattle.std.proofs.Common.{◌*◌}
use Rattle.connectivity.specs.Share.{share}
use Rattle.connectivity.specs.Raised.{Raised}
use Rattle.connectivity.specs.Laid.{signed}
use Rattle.connectivity.proofs.shares.share_row.Given as goal

abbrev pub invariant-loop-x : goal.invariant-loop-x
invariant-loop-x l = Raised (λ j. signed l.take (share l.counts (16 * l.e) l.own l.w j)) (16 * l.q) l.x l.initial.gains l.gains
