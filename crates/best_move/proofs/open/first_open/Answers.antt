use Rattle.std.proofs.Common.{arith, refl, subst, ◌∙◌, to_z, of_z, w64}
use Rattle.laws.specs.Integer.{read32}
use Rattle.best_move.specs.Open.{Leads}
use Rattle.best_move.specs.OpenLaw.{read64, le-not-lt}
use Rattle.best_move.specs.First.{block-other, shut-more, first_found, first-low, first-missing}
use Rattle.best_move.proofs.open.first_open.Goals as goal

pub loop-j-init : goal.loop-j-init
loop-j-init c = (omega arith, λ i l. absurd (omega arith))

pub block_at-b-requires : goal.block_at-b-requires
block_at-b-requires c =
    let a = c.args in
    let o = block-other a.loads.now a.ceilings.now a.weight c.requires c.loop-j.j _ (omega arith) refl in record { x_in_bounds = (omega arith, omega arith); bound = (o.0, omega (arith, o.1)) }

pub returns-then-from-top : goal.returns-then-from-top
returns-then-from-top c =
    let l = c.loop-j in
    let gain = c.from-arg-1.given in
    let a = c.args in
    λ b h. first-low a.loads.now a.ceilings.now a.weight c.requires l.j _ (omega arith) c.block_at-b.ensures.is a.before b (read64 _ c.struct_told-1.given.1.0.1) (read64 _ c.from.type_inv ∙ c.from.ensures ∙ read32 _ gain) gain
    refl (le-not-lt (to_z w64 (of_z w64 c.from.result)) (to_z w64 (of_z w64 a.before.top)) c.if-from-top.true) l.invariant.1 h

pub returns-then-has_space : goal.returns-then-has_space
returns-then-has_space c =
    let l = c.loop-j in
    let block = c.block_at-b in
    let a = c.args in
    λ b h. first_found a.loads.now a.ceilings.now a.weight c.requires l.j _ (omega arith) block.ensures.is _ _ c.weigh.result b c.has_space.ensures c.if-has_space.true l.invariant.1
    refl (read32 _ c.weigh-arg-1.given) (c.weigh.ensures b h)

pub loop-j-preserved : goal.loop-j-preserved
loop-j-preserved c =
    let l = c.loop-j in
    let block = c.block_at-b in
    let a = c.args in
    (omega arith, shut-more a.loads.now a.ceilings.now a.weight c.requires l.j _ (omega arith) block.ensures.is c.has_space.ensures c.if-has_space.false l.invariant.1)

pub returns : goal.returns
returns c =
    let a = c.args in
    λ b h. subst (Leads a.before) (first-missing a.loads.now a.ceilings.now a.weight c.requires c.loop-j.j b (omega arith) c.loop-j.invariant.1) h
