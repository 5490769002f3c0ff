-- `hall_file::report_hall` meets its contract.
use Rattle.hall_file.specs.Loaded.{few}
use Rattle.hall_file.specs.Worked.{can-close, close, worked, lots-are}
use Rattle.hall_file.proofs.report_hall.Goals as goal

pub sell_hall-s-requires : goal.sell_hall-s-requires
sell_hall-s-requires c = c.requires

pub close_sets-end-requires : goal.close_sets-end-requires
close_sets-end-requires c =
    let can = c.requires in
    can-close can.catalogued (c.sell_hall-s.ensures _ _ _ _ can.catalogued) can.spacious

pub lots_known-requires : goal.lots_known-requires
lots_known-requires c = few c.requires.catalogued

pub returns : goal.returns
returns c =
    λ file estimated old lows g.
    let s = c.sell_hall-s.ensures file estimated old lows g in
    record {
      worked = worked g s c.requires.spacious (c.close_sets-end.ensures _ _ (close g s));
      lots-are = lots-are g s c.lots_known.ensures.0 c.lots_known.ensures.1;
    }
