-- `hall_file::sell_hall` meets its contract.
use Rattle.hall_file.specs.Sold.{can-open-sets, whole_is, can-run, sold}
use Rattle.hall_file.proofs.sell_hall.Goals as goal

pub open_sets-start-requires : goal.open_sets-start-requires
open_sets-start-requires c = can-open-sets c.requires.catalogued

pub run_hall-end-requires : goal.run_hall-end-requires
run_hall-end-requires c =
    let catalogued = c.requires.catalogued in
    can-run catalogued c.open_sets-start.ensures (whole_is catalogued c.open_sets-start.ensures c.open_sets-start.auto.counts c.open_sets-start.auto.visited c.open_sets-start.auto.gains c.open_sets-start.auto.index c.open_sets-start.auto.bits c.open_sets-start.auto.loads) c.all_blocks-ks.ensures c.all_terms-terms.ensures c.requires.spacious

pub returns : goal.returns
returns c = λ file estimated old lows g. sold g c.open_sets-start.ensures (whole_is g c.open_sets-start.ensures c.open_sets-start.auto.counts c.open_sets-start.auto.visited c.open_sets-start.auto.gains c.open_sets-start.auto.index c.open_sets-start.auto.bits c.open_sets-start.auto.loads) _ _ _ c.all_blocks-ks.ensures c.all_terms-terms.ensures c.all_totals-drafts.ensures c.run_hall-end.ensures
