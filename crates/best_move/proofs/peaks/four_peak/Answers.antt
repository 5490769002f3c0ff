use Rattle.std.proofs.Common.{arith, ◌≡◌, ◌≤◌, ◌-◌, ◌+◌, ◌*◌}
use Rattle.laws.specs.Integer.{read32}
use Rattle.best_move.specs.Peak.{larger_max, column-begins, column-rises, four-ends}
use Rattle.best_move.proofs.peaks.four_peak.Goals as goal

pub loop-x-init : goal.loop-x-init
loop-x-init c =
    let a = c.args in
    let g = a.gains.now in
    (c.requires.0, column-begins g a.from a.b _, column-begins g a.from (a.b + 1) _, column-begins g a.from (a.b + 2) _, column-begins g a.from (a.b + 3) _)

pub loop-x-preserved : goal.loop-x-preserved
loop-x-preserved c =
    let l = c.loop-x in
    let a = c.args in
    let g = a.gains.now in (
      omega arith,
      column-rises g a.from l.x a.b (16 * l.x + a.b) _ _ _ _ (omega arith) l.invariant.1 (read32 _ c.max-arg-1.given) (read32 _ c.max-p0.type_inv) (larger_max _ _ _ c.max-p0.ensures.value),
      column-rises g a.from l.x (a.b + 1) (16 * l.x + a.b + 1) _ _ _ _ (omega arith) l.invariant.2 (read32 _ c.max-arg-in-loop-x-1.given) (read32 _ c.max-p1.type_inv) (larger_max _ _ _ c.max-p1.ensures.value),
      column-rises g a.from l.x (a.b + 2) (16 * l.x + a.b + 2) _ _ _ _ (omega arith) l.invariant.3 (read32 _ c.max-arg-in-loop-x-2-1.given) (read32 _ c.max-p2.type_inv) (larger_max _ _ _ c.max-p2.ensures.value),
      column-rises g a.from l.x (a.b + 3) (16 * l.x + a.b + 3) _ _ _ _ (omega arith) l.invariant.4 (read32 _ c.max-arg-in-loop-x-3-1.given) (read32 _ c.max-p3.type_inv) (larger_max _ _ _ c.max-p3.ensures.value),
    )

pub returns : goal.returns
returns c =
    let l = c.loop-x in
    let a = c.args in
    let e : l.x ≡ a.to = omega (arith, l.invariant.0) in
    four-ends a.gains.now a.from l.x a.to a.b _ _ _ _ _ _ _ _ _ _ e l.invariant.1 l.invariant.2 l.invariant.3 l.invariant.4 (larger_max _ _ _ c.max.ensures.value) (larger_max _ _ _ c.max-2.ensures.value) (read32 _ c.max.type_inv) (read32 _ c.max-2.type_inv) (larger_max _ _ _ c.max-3.ensures.value) (read32 _ c.max-3.type_inv)
