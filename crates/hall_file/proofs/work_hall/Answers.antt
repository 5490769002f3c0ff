-- `hall_file::work_hall` meets its contract.
use Rattle.std.proofs.Common.{ℕ, arith, replicate}
use Rattle.std.proofs.lemmas.List.{length-replicate}
use Rattle.laws.specs.Fold.{zeros-get}
use Rattle.hall_file.specs.Worked.{own-length, own-four, catalogued, small, line-fits, turned_down, no-lots}
use Rattle.hall_file.proofs.work_hall.Goals as goal

pub load_hall-loaded-requires : goal.load_hall-loaded-requires
load_hall-loaded-requires c =
    let four = c.requires.four in
    (omega (arith, length-replicate {A = ℕ} 2048 0), omega (arith, length-replicate {A = ℕ} 30000 0), record { weights-four = four.weights-four; blocks-four = four.blocks-four; aboves-four = four.aboves-four; fixed-four = four.fixed-four; loaded_pins-four = four.loaded_pins-four; present_pins-four = four.present_pins-four; firsts-four = four.firsts-four; loaded_sizes-four = four.loaded_sizes-four; present_sizes-four = four.present_sizes-four; costs-four = own-four (replicate 1024 0); lows-four = own-four (replicate 1024 0) }, λ d low high. (own-length d high, own-length d high))

pub refuse-requires : goal.refuse-requires
refuse-requires c =
    let refused = c.in-Err.is in
    ((small c.load_hall-loaded.ensures refused).1, rw c.number-code.ensures (omega (arith, line-fits c.load_hall-loaded.ensures refused, c.requires.spacious)))

pub report_hall-end-requires : goal.report_hall-end-requires
report_hall-end-requires c =
    let long = c.requires in
    let four = long.four in
    let loaded = c.load_hall-loaded in
    record {
      file = _;
      estimated = _;
      old = _;
      lows = _;
      catalogued = catalogued _ loaded.ensures c.in-Ok.is long.long (record { weights-four = omega (arith, four.weights-four, loaded.auto.weights); blocks-four = omega (arith, four.blocks-four, loaded.auto.blocks); aboves-four = omega (arith, four.aboves-four, loaded.auto.aboves); fixed-four = omega (arith, four.fixed-four, loaded.auto.fixed); loaded_pins-four = omega (arith, four.loaded_pins-four, loaded.auto.loadedpins); present_pins-four = omega (arith, four.present_pins-four, loaded.auto.presentpins); firsts-four = omega (arith, four.firsts-four, loaded.auto.firsts); loaded_sizes-four = omega (arith, four.loaded_sizes-four, loaded.auto.loadedsizes); present_sizes-four = omega (arith, four.present_sizes-four, loaded.auto.presentsizes); counts-four = four.counts-four; gains-four = four.gains-four; index-four = four.index-four; visited-four = four.visited-four }) (omega (arith, own-four (replicate 1024 0), loaded.auto.netweights)) (omega (arith, length-replicate {A = ℕ} 2048 0, loaded.auto.calls));
      spacious = long.spacious;
    }

pub returns-in-Err : goal.returns-in-Err
returns-in-Err c =
    let refused = c.in-Err.is in
    (turned_down c.load_hall-loaded.ensures refused c.number-code.ensures (rw c.number-code.ensures at c.refuse.ensures), no-lots c.load_hall-loaded.ensures refused (λ d l. zeros-get 4 d))

pub returns-in-Ok : goal.returns-in-Ok
returns-in-Ok c =
    let long = c.requires in
    let four = long.four in
    let loaded = c.load_hall-loaded in
    let told = c.report_hall-end.ensures _ _ _ _ (catalogued _ loaded.ensures c.in-Ok.is long.long (record { weights-four = omega (arith, four.weights-four, loaded.auto.weights); blocks-four = omega (arith, four.blocks-four, loaded.auto.blocks); aboves-four = omega (arith, four.aboves-four, loaded.auto.aboves); fixed-four = omega (arith, four.fixed-four, loaded.auto.fixed); loaded_pins-four = omega (arith, four.loaded_pins-four, loaded.auto.loadedpins); present_pins-four = omega (arith, four.present_pins-four, loaded.auto.presentpins); firsts-four = omega (arith, four.firsts-four, loaded.auto.firsts); loaded_sizes-four = omega (arith, four.loaded_sizes-four, loaded.auto.loadedsizes); present_sizes-four = omega (arith, four.present_sizes-four, loaded.auto.presentsizes); counts-four = four.counts-four; gains-four = four.gains-four; index-four = four.index-four; visited-four = four.visited-four }) (omega (arith, own-four (replicate 1024 0), loaded.auto.netweights)) (omega (arith, length-replicate {A = ℕ} 2048 0, loaded.auto.calls))) in
    (told.worked, told.lots-are)
