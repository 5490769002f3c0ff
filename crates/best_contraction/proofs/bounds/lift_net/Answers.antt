use Rattle.std.proofs.Common.{ℕ, ◌≤◌, ◌-◌, ◌*◌, subst, ◌≡◌, arith}
use Rattle.laws.specs.Occurrence.{occ}
use Rattle.best_contraction.specs.Bound.{rise_at, Risen}
use Rattle.best_contraction.specs.BoundLaw.{lift-none, lift-more, lift-still, share-small}
use Rattle.best_contraction.proofs.bounds.lift_net.Goals as goal

pub returns-then-near-far-eq0 : goal.returns-then-near-far-eq0
returns-then-near-far-eq0 c =
    let a = c.args in
    lift-still a.presentpins.now a.blocks.now a.bounds.now a.first a.n a.u a.own a.near a.far c.requires.take_ok.full c.if-near-far-eq0.true

pub loop-i-init : goal.loop-i-init
loop-i-init c =
    let a = c.args in
    (omega arith, lift-none a.presentpins.now a.first (rise_at a.blocks.now a.u a.own a.near a.far) a.bounds.now c.requires.take_ok.full)

pub overflow_add-first : goal.overflow_add-first
overflow_add-first c =
    omega (arith, c.requires.take_ok.stretch)

pub bounds-presentpins-first : goal.bounds-presentpins-first
bounds-presentpins-first c =
    omega (arith, c.requires.take_ok.stretch)

pub offset_bounds-bounds-y : goal.offset_bounds-bounds-y
offset_bounds-bounds-y c =
    omega (arith, c.from-y.ensures, c.requires.take_ok.pin c.loop-i.i (omega arith))

pub bounds-bounds-y : goal.bounds-bounds-y
bounds-bounds-y c =
    omega (arith, c.loop-i.invariant.1.len, c.from-y.ensures, c.requires.take_ok.pin c.loop-i.i (omega arith))

pub share-requires : goal.share-requires
share-requires c =
    omega (arith, c.from-y.ensures, c.requires.take_ok.pin c.loop-i.i (omega arith))

pub raised-requires : goal.raised-requires
raised-requires c =
    let a = c.args in
    share-small a.blocks.now a.u a.own a.near a.far c.from-y.result c.share.result c.requires.near_bound.0 c.requires.near_bound.1 c.share.ensures

pub offset_bounds-bounds-y-in-loop-i : goal.offset_bounds-bounds-y-in-loop-i
offset_bounds-bounds-y-in-loop-i c =
    omega (arith, c.from-y.ensures, c.requires.take_ok.pin c.loop-i.i (omega arith))

pub bounds-bounds-y-in-loop-i : goal.bounds-bounds-y-in-loop-i
bounds-bounds-y-in-loop-i c =
    omega (arith, c.loop-i.invariant.1.len, c.from-y.ensures, c.requires.take_ok.pin c.loop-i.i (omega arith))

pub loop-i-preserved : goal.loop-i-preserved
loop-i-preserved c =
    let a = c.args in
    let l = c.loop-i in
    (omega arith, lift-more a.presentpins.now a.first (rise_at a.blocks.now a.u a.own a.near a.far) a.bounds.now l.bounds l.i c.from-y.result c.share.result _ l.invariant.1 c.from-y.ensures (omega (arith, c.from-y.ensures, c.requires.take_ok.pin l.i (omega arith))) c.share.ensures c.raised.ensures)

pub returns : goal.returns
returns c =
    let a = c.args in
    let e : c.loop-i.i ≡ a.n = omega (arith, c.loop-i.invariant.0) in
    subst (λ (k : ℕ). Risen a.bounds.now c.loop-i.bounds (λ z. occ a.presentpins.now a.first k z * rise_at a.blocks.now a.u a.own a.near a.far z)) e c.loop-i.invariant.1
