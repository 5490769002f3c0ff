-- `share_of`: the difference of the halves.
use Rattle.std.proofs.Common.{◌∙◌, arith, ◌+◌, get_or}
use Rattle.laws.specs.Integer.{read32}
use Rattle.connectivity.specs.Share.{share-is, when-le}
use Rattle.connectivity.proofs.shares.share_of.Goals as goal

pub difference-requires : goal.difference-requires
difference-requires c =
    let h = c.net_halves-halves in
    omega (arith, h.ensures, c.ranges.freed, c.ranges.w, when-le (get_or c.args.counts.now (c.args.crow + c.args.x) 0) 0 c.args.w)

pub returns : goal.returns
returns c =
    let a = c.args in
    read32 _ c.unless.type_inv ∙ share-is a.counts.now a.crow a.own a.w a.x _ _ _ _
    (c.net_halves-halves.ensures.0 ∙ c.requires.freed_value) c.net_halves-halves.ensures.1
    (read32 _ c.difference.type_inv ∙ c.difference.ensures)
    c.unless.ensures
