use Rattle.std.proofs.Common.{refl}
use Rattle.best_contraction.specs.Settling.{settling, effort-less, settled}
use Rattle.best_contraction.proofs.join.best_join.Goals as goal

pub set_tops-requires : goal.set_tops-requires
set_tops-requires c =
    let p = c.requires in
    (refl, p.bounded.len, p.tables_ok.vertices)

pub highest-start-requires : goal.highest-start-requires
highest-start-requires c =
    let p = c.requires in
    (p.bounded.len, p.blank.1, p.tables_ok.vertices, c.set_tops.ensures)

pub rate-s-requires : goal.rate-s-requires
rate-s-requires c =
    let p = c.requires in
    let h = c.highest-start.ensures in record { tables_ok = p.tables_ok; blank = (p.blank.0, p.bounded.len, h.low, h.high, p.blank.2); topped = c.set_tops.ensures }

pub loop-s-init : goal.loop-s-init
loop-s-init c =
    let p = c.requires in
    let h = c.highest-start.ensures in
    let r = c.rate-s.ensures in
    (settling p.bounded h.low h.high p.tables_ok.vertices r.rates, r.blank_2, r.topped_2)

pub rate-s-requires-in-loop-s : goal.rate-s-requires-in-loop-s
rate-s-requires-in-loop-s c =
    let p = c.requires in
    let v = c.loop-s.invariant in record { tables_ok = p.tables_ok; blank = (v.1, v.0.bounded.len, v.0.high.low, v.0.high.high, p.blank.2); topped = v.2 }

pub loop-s-smaller : goal.loop-s-smaller
loop-s-smaller c =
    effort-less c.requires.tables_ok.vertices c.loop-s.invariant.0 c.loop-s-test.true c.rate-s-in-loop-s.ensures.rates

pub loop-s-preserved : goal.loop-s-preserved
loop-s-preserved c =
    let p = c.requires in
    let v = c.loop-s.invariant.0 in
    let r = c.rate-s-in-loop-s.ensures in
    (settling v.bounded v.high.low v.high.high p.tables_ok.vertices r.rates, r.blank_2, r.topped_2)

pub returns : goal.returns
returns c =
    let v = c.loop-s.invariant in record { best_join = settled v.0 c.loop-s-test.false; bounded_2 = v.0.bounded; blank_2 = v.1 }
