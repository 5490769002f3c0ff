use Rattle.std.proofs.Common.{arith, refl, ◌∙◌, ◌≤◌, ◌-◌}
use Rattle.near_rows.specs.Near.{row-asks, tables-as, net-in, mended-none, mended-then, mended-row, nets-none, nets-more, near-right}
use Rattle.incidence.specs.On.{along-next, gave}
use Rattle.near_rows.proofs.near.put_near_right.Goals as goal

pub put_right-requires : goal.put_right-requires
put_right-requires c =
    row-asks c.requires.rows refl c.args.u c.requires.u-in

pub nets_of-e-items-requires : goal.nets_of-e-items-requires
nets_of-e-items-requires c = omega (arith, c.requires.u-bits, c.requires.few-nets)

pub loop-e-init : goal.loop-e-init
loop-e-init c =
    let a = c.args in
    let s = c.nets_of-e-items.ensures in
    rw c.into_iter-e-iterator.ensures.into_iter_gives
    (s.along, mended-none _, c.put_right.ensures.here, nets-none a.gains.now a.counts.now a.blocks.now a.presentpins.now a.firsts.now a.presentsizes.now a.bits.now a.n a.m a.k a.u a.s a.t _ _ s.first)

pub offset_bounds-firsts-e : goal.offset_bounds-firsts-e
offset_bounds-firsts-e c =
    let e = gave c.loop-e.invariant.0 c.in-Some.ensures.steps in omega (arith, e.below, c.requires.few-nets)

pub bounds-firsts-e : goal.bounds-firsts-e
bounds-firsts-e c =
    let e = gave c.loop-e.invariant.0 c.in-Some.ensures.steps in omega (arith, e.below, c.requires.firsts-fit)

pub offset_bounds-presentsizes-e : goal.offset_bounds-presentsizes-e
offset_bounds-presentsizes-e c =
    let e = gave c.loop-e.invariant.0 c.in-Some.ensures.steps in omega (arith, e.below, c.requires.few-nets)

pub bounds-presentsizes-e : goal.bounds-presentsizes-e
bounds-presentsizes-e c =
    let e = gave c.loop-e.invariant.0 c.in-Some.ensures.steps in omega (arith, e.below, c.requires.sizes-fit)

pub put_net_right-requires : goal.put_net_right-requires
put_net_right-requires c =
    let ok = c.requires in
    let g = gave c.loop-e.invariant.0 c.in-Some.ensures.steps in
    let e = c.in-Some.e in (
      tables-as (c.loop-e.invariant.1.kept.len ∙ c.put_right.ensures.len) ok.rows,
      rw (c.from.ensures, c.from-in-loop-e.ensures) (ok.nets e g.below),
      (net-in ok e g.below).0,
      (net-in ok e g.below).1,
    )

pub loop-e-preserved : goal.loop-e-preserved
loop-e-preserved c =
    let a = c.args in
    let I = c.loop-e.invariant in
    let g = c.in-Some.ensures.steps in
    let e = gave I.0 g in
    let r = c.put_net_right.ensures in (
      along-next I.0 g,
      mended-then I.1 r.0,
      r.0.stays a.u I.2,
      nets-more a.gains.now a.counts.now a.blocks.now a.presentpins.now a.firsts.now a.presentsizes.now a.bits.now a.n a.m a.k a.u a.s a.t c.in-Some.e _ _ _ c.from.ensures c.from-in-loop-e.ensures e.next r.0 (rw g.here at I.3) r.1,
    )

pub returns : goal.returns
returns c =
    let a = c.args in
    let I = c.loop-e.invariant in
    let own = mended-row {n = a.n} a.u c.requires.rows.k-to c.requires.u-in c.put_right.ensures in
    near-right a.gains.now a.counts.now a.blocks.now a.presentpins.now a.firsts.now a.presentsizes.now a.bits.now a.n a.m a.k a.u a.s a.t _ (omega (arith, I.0.end, c.in-None.ensures.steps.0)) (mended-then own I.1) I.2 I.3
