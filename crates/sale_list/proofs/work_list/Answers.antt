use Rattle.std.proofs.Common.{ℕ, arith, refl}
use Rattle.std.proofs.lemmas.List.{length-replicate}
use Rattle.sale.specs.Files.{catalogued, small, line-fits}
use Rattle.sale_list.specs.Lists.{list-listed, idle, list-worked, list-down}
use Rattle.sale_list.proofs.work_list.Goals as goal

pub load-loaded-requires : goal.load-loaded-requires
load-loaded-requires c =
    let long = c.requires.0 in
    (long.within, length-replicate {A = ℕ} 1024 0, length-replicate {A = ℕ} 1024 0, omega (arith, length-replicate {A = ℕ} 1536 0), omega (arith, length-replicate {A = ℕ} 30000 0), long.lists-long)

pub refuse-end-requires : goal.refuse-end-requires
refuse-end-requires c =
    let long = c.requires.0 in
    let refused = c.in-Err.is in
    ((small long c.load-loaded.ensures refused).1, rw c.number-code.ensures (omega (arith, line-fits long c.load-loaded.ensures refused, long.spacious)))

pub slice_bounds-sell-end : goal.slice_bounds-sell-end
slice_bounds-sell-end c = omega (arith, (c.load-loaded.ensures.accepts _ c.in-Ok.is).costs)

pub sell-s-requires : goal.sell-s-requires
sell-s-requires c =
    let long = c.requires.0 in
    record {
      limits = _;
      old = _;
      lows = _;
      catalogued = catalogued long c.load-loaded.ensures c.in-Ok.is;
      listed = list-listed _ _ c.requires.1;
      spacious = long.spacious;
    }

pub long-stack-requires : goal.long-stack-requires
long-stack-requires c =
    let long = c.requires.0 in
    let sold = c.sell-s.ensures _ _ _ (catalogued long c.load-loaded.ensures c.in-Ok.is) (list-listed _ _ c.requires.1) long.spacious in
    sold.stack-whole.short

pub long-journal-requires : goal.long-journal-requires
long-journal-requires c =
    let long = c.requires.0 in
    let sold = c.sell-s.ensures _ _ _ (catalogued long c.load-loaded.ensures c.in-Ok.is) (list-listed _ _ c.requires.1) long.spacious in
    sold.journal-whole.short

pub returns-in-Err : goal.returns-in-Err
returns-in-Err c =
    list-down c.args.list.now c.args.operands.now _ _ _ _ _ c.load-loaded.ensures c.in-Err.is _
    (idle c.new-none.ensures.2 c.new-none.ensures.3 c.new-none.ensures.4 c.new-unmoved.ensures.2 c.new-unmoved.ensures.3 c.new-unmoved.ensures.4 refl) c.number-code.ensures (rw c.number-code.ensures at c.refuse-end.ensures)

pub returns-in-Ok : goal.returns-in-Ok
returns-in-Ok c =
    let long = c.requires.0 in
    let accepted = c.in-Ok.is in
    list-worked c.args.list.now c.args.operands.now _ _ _ _ _ c.load-loaded.ensures accepted (c.sell-s.ensures _ _ _ (catalogued long c.load-loaded.ensures accepted) (list-listed _ _ c.requires.1) long.spacious) c.long-stack.ensures c.long-journal.ensures
