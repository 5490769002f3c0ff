use Rattle.sale.specs.Reported.{closes, reported}
use Rattle.sale.proofs.closing.report_sale.Goals as goal

pub sell-s-requires : goal.sell-s-requires
sell-s-requires c = c.requires

pub put_closing-end-requires : goal.put_closing-end-requires
put_closing-end-requires c =
    let can = c.requires in
    closes (c.sell-s.ensures can.limits can.lows can.old can.catalogued can.listed can.spacious)

pub returns : goal.returns
returns c =
    λ limits lows old g l spacious. let s = c.sell-s.ensures limits lows old g l spacious in reported s (c.put_closing-end.ensures _ _ s.ended)
