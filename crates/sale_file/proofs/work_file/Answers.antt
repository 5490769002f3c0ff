use Rattle.std.proofs.Common.{ℕ, arith}
use Rattle.std.proofs.lemmas.List.{length-replicate}
use Rattle.sale.specs.Files.{catalogued, listed, worked, lots-known, small, line-fits, no-lots, turned_down}
use Rattle.sale_file.proofs.work_file.Goals as goal

pub load-loaded-requires : goal.load-loaded-requires
load-loaded-requires c =
    let long = c.requires in
    (long.within, length-replicate {A = ℕ} 1024 0, length-replicate {A = ℕ} 1024 0, omega (arith, length-replicate {A = ℕ} 1536 0), omega (arith, length-replicate {A = ℕ} 30000 0), long.lists-long)

pub refuse-requires : goal.refuse-requires
refuse-requires c =
    let long = c.requires in
    let refused = c.in-Err.is in
    ((small long c.load-loaded.ensures refused).1, rw c.number-code.ensures (omega (arith, line-fits long c.load-loaded.ensures refused, long.spacious)))

pub slice_bounds-report_sale-end : goal.slice_bounds-report_sale-end
slice_bounds-report_sale-end c = omega (arith, (c.load-loaded.ensures.accepts _ c.in-Ok.is).costs)

pub report_sale-end-requires : goal.report_sale-end-requires
report_sale-end-requires c =
    let long = c.requires in
    let accepted = c.in-Ok.is in
    record {
      limits = _;
      old = _;
      lows = _;
      catalogued = catalogued long c.load-loaded.ensures accepted;
      listed = listed long c.load-loaded.ensures accepted (omega (arith, c.load-loaded.auto.calls, length-replicate {A = ℕ} 1536 0));
      spacious = long.spacious;
    }

pub returns-in-Err : goal.returns-in-Err
returns-in-Err c =
    let long = c.requires in
    let refused = c.in-Err.is in
    (turned_down long c.load-loaded.ensures refused c.number-code.ensures (rw c.number-code.ensures at c.refuse.ensures), no-lots long c.load-loaded.ensures refused)

pub returns-in-Ok : goal.returns-in-Ok
returns-in-Ok c =
    let long = c.requires in
    let accepted = c.in-Ok.is in
    let report = c.report_sale-end.ensures _ _ _ (catalogued long c.load-loaded.ensures accepted) (listed long c.load-loaded.ensures accepted (omega (arith, c.load-loaded.auto.calls, length-replicate {A = ℕ} 1536 0))) long.spacious in
    (worked long c.load-loaded.ensures accepted report, lots-known long c.load-loaded.ensures accepted report)
