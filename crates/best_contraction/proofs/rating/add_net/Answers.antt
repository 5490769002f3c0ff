use Rattle.std.proofs.Common.{ℕ, ◌≤◌, ◌-◌, ◌*◌, subst, ◌≡◌, arith}
use Rattle.laws.specs.Occurrence.{occ}
use Rattle.best_contraction.specs.Rating.{Raised}
use Rattle.best_contraction.specs.RatingLaw.{net-none, net-room, net-more}
use Rattle.best_contraction.proofs.rating.add_net.Goals as goal

pub loop-i-init : goal.loop-i-init
loop-i-init c =
    let a = c.args in
    let p = c.requires in
    (omega arith, net-none a.acc.now a.presentpins.now a.first a.n a.t p.stretch_ok p.t_bound)

pub overflow_add-first : goal.overflow_add-first
overflow_add-first c =
    omega (arith, c.requires.stretch_ok.stretch)

pub bounds-presentpins-first : goal.bounds-presentpins-first
bounds-presentpins-first c =
    omega (arith, c.requires.stretch_ok.stretch)

pub offset_bounds-acc-y : goal.offset_bounds-acc-y
offset_bounds-acc-y c =
    omega (arith, c.from-y.ensures, c.requires.stretch_ok.pin c.loop-i.i (omega arith))

pub bounds-acc-y : goal.bounds-acc-y
bounds-acc-y c =
    let a = c.args in
    let p = c.requires in
    let l = c.loop-i in
    (net-room a.acc.now a.presentpins.now a.first a.n a.t p.stretch_ok p.t_bound l.acc l.i c.from-y.result (omega arith) l.invariant.1 c.from-y.ensures).0

pub overflow_add-acc : goal.overflow_add-acc
overflow_add-acc c =
    let a = c.args in
    let p = c.requires in
    let l = c.loop-i in
    omega (arith, net-room a.acc.now a.presentpins.now a.first a.n a.t p.stretch_ok p.t_bound l.acc l.i c.from-y.result (omega arith) l.invariant.1 c.from-y.ensures)

pub offset_bounds-acc-y-in-loop-i : goal.offset_bounds-acc-y-in-loop-i
offset_bounds-acc-y-in-loop-i c =
    omega (arith, c.from-y.ensures, c.requires.stretch_ok.pin c.loop-i.i (omega arith))

pub bounds-acc-y-in-loop-i : goal.bounds-acc-y-in-loop-i
bounds-acc-y-in-loop-i c =
    let a = c.args in
    let p = c.requires in
    let l = c.loop-i in
    (net-room a.acc.now a.presentpins.now a.first a.n a.t p.stretch_ok p.t_bound l.acc l.i c.from-y.result (omega arith) l.invariant.1 c.from-y.ensures).0

pub loop-i-preserved : goal.loop-i-preserved
loop-i-preserved c =
    let a = c.args in
    let p = c.requires in
    let l = c.loop-i in
    (omega arith, net-more a.acc.now a.presentpins.now a.first a.n a.t p.stretch_ok p.t_bound l.acc l.i c.from-y.result (omega arith) l.invariant.1 c.from-y.ensures)

pub returns : goal.returns
returns c =
    let a = c.args in
    let e : c.loop-i.i ≡ a.n = omega arith in
    subst (λ (k : ℕ). Raised a.acc.now c.loop-i.acc (λ z. a.t * occ a.presentpins.now a.first k z)) e c.loop-i.invariant.1
