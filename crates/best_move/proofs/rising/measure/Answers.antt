use Rattle.std.proofs.Common.{arith, ◌≡◌, subst, ℕ, ◌≤◌, ◌-◌}
use Rattle.best_move.specs.Rising.{Rooms}
use Rattle.best_move.specs.RisingLaw.{rooms-none, rooms-more}
use Rattle.best_move.proofs.rising.measure.Goals as goal

pub loop-b-init : goal.loop-b-init
loop-b-init c = (omega arith, omega arith, rooms-none c.args.loads.now c.args.ceilings.now c.args.rooms.now c.requires.0)

pub loop-b-preserved : goal.loop-b-preserved
loop-b-preserved c =
    let a = c.args in
    (omega arith, omega arith, rooms-more a.loads.now a.ceilings.now c.loop-b.b c.loop-b.rooms c.room_of.result (omega arith) c.loop-b.invariant.2 c.room_of.ensures)

pub returns : goal.returns
returns c =
    let l = c.loop-b in
    let a = c.args in
    let e : l.b ≡ a.k = omega (arith, l.invariant) in
    subst (λ (b : ℕ). Rooms a.loads.now a.ceilings.now b l.rooms) e l.invariant.2
