use Rattle.std.proofs.Common.{ℕ, arith, ◌≡◌, refl, sym}
use Rattle.std.proofs.lemmas.List.{length-replicate}
use Rattle.best_contraction.specs.BoundLaw.{bounded-begin}
use Rattle.coarsening.specs.Linked.{blank, tables-ok}
use Rattle.coarsening.specs.Coarsen.{going-none, going_more, going_on, going_out, going_done, once_asks}
use Rattle.coarsening.proofs.coarsen.Goals as goal

pub join_blocks-joinblocks-requires : goal.join_blocks-joinblocks-requires
join_blocks-joinblocks-requires c =
    let p = c.requires in
    let s = p.stands.sound in
    (s.follows.room.few-vertices, s.follows.world.lists.blocks-fit, p.fixed.len)

pub slice_bounds-begin-end : goal.slice_bounds-begin-end
slice_bounds-begin-end c = sym c.join_blocks-joinblocks.ensures.len

pub begin-requires : goal.begin-requires
begin-requires c =
    record { tables_ok = tables-ok c.requires.stands.sound c.join_blocks-joinblocks.ensures; bounds_len = length-replicate {A = ℕ} 1025 0 }

pub excess-many-requires : goal.excess-many-requires
excess-many-requires c =
    let p = c.requires in
    ((p.stands.sound.follows.room.few-vertices, p.stands.sound.follows.world.lists.blocks-fit), p.stands.sound.follows.world.frame.few)

pub loop-init : goal.loop-init
loop-init c =
    (λ loads loaded. going-none _ _ _ _ _ _ _ (omega (arith, c.excess-many.ensures)), blank 1025 refl, bounded-begin _ _ _ _ _ _ _ _ _ _ (tables-ok c.requires.stands.sound c.join_blocks-joinblocks.ensures) _ c.begin.ensures)

pub coarsen_once-requires : goal.coarsen_once-requires
coarsen_once-requires c =
    let v = c.loop.invariant in record { once_ok = (_, once_asks c.requires c.join_blocks-joinblocks.ensures v.0 (omega (arith, c.loop-test.true))); blank = (v.1, v.2) }

pub loop-preserved : goal.loop-preserved
loop-preserved c =
    let v = c.loop.invariant in
    let o = c.coarsen_once in
    (λ loads loaded. going_on _ (going_more refl refl refl refl refl (v.0 loads loaded) (o.ensures.by_index loads loaded _ (omega (arith, c.loop-test.true)))) c.if-not-coarsen_once.false _ (omega arith), o.ensures.blank_2.0, o.ensures.blank_2.1)

pub returns-after-loop : goal.returns-after-loop
returns-after-loop c =
    λ loads loaded. going_done c.join_blocks-joinblocks.ensures (c.loop.invariant.0 loads loaded) (omega (arith, c.loop-test.false))

pub returns-then-not-coarsen_once : goal.returns-then-not-coarsen_once
returns-then-not-coarsen_once c =
    let o = c.coarsen_once in
    λ loads loaded. going_done c.join_blocks-joinblocks.ensures (going_out _ (going_more refl refl refl refl refl (c.loop.invariant.0 loads loaded) (o.ensures.by_index loads loaded _ (omega (arith, c.loop-test.true)))) c.if-not-coarsen_once.true) refl
