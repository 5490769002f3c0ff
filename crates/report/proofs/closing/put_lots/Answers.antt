use Rattle.std.proofs.Common.{arith, ◌≡◌, ◌∙◌, ℕ, ◌+◌, rules}
use Rattle.model.specs.Catalogue.{vertices}
use Rattle.report.specs.Present.{sale-stands}
use Rattle.report.proofs.Rows.{lots-none, lots-room, lots-more, lots-all}
use Rattle.report.proofs.closing.put_lots.Goals as goal

pub loop-i-init : goal.loop-i-init
loop-i-init c =
    (omega arith, search rules, λ h s t. lots-none h s c.args.out.now c.args.at)

pub overflow_add-i : goal.overflow_add-i
overflow_add-i c =
    omega (arith, c.requires.shown.few)

pub block_of-block-requires : goal.block_of-block-requires
block_of-block-requires c =
    let k = c.requires in record { h = k.h; s = k.s; n = c.args.n; shown = k.shown; low = omega arith; high = omega arith }

pub put_present-p-requires : goal.put_present-p-requires
put_present-p-requires c =
    let k = c.requires in
    let i : ℕ = c.loop-i.i in
    let w = c.loop-i.invariant.2 k.h k.s k.shown in
    let more = lots-room k.h k.s i c.block_of-block.result (omega (arith, k.shown.all)) (c.block_of-block.ensures k.h k.s c.args.n k.shown (omega arith)) (sale-stands k.h k.s k.shown.sound k.shown.inside k.shown.placed (i + 1) (omega arith) (omega (arith, k.shown.all))) in
    (omega (arith, k.shown.few), omega (arith, w.ends, k.fits, c.loop-i.invariant.1))

pub loop-i-preserved : goal.loop-i-preserved
loop-i-preserved c =
    let k = c.requires in
    let i : ℕ = c.loop-i.i in
    let w = c.loop-i.invariant.2 k.h k.s k.shown in
    let more = lots-room k.h k.s i c.block_of-block.result (omega (arith, k.shown.all)) (c.block_of-block.ensures k.h k.s c.args.n k.shown (omega arith)) (sale-stands k.h k.s k.shown.sound k.shown.inside k.shown.placed (i + 1) (omega arith) (omega (arith, k.shown.all))) in (
      omega arith,
      c.put_present-p.auto.out ∙ c.loop-i.invariant.1,
      λ h s t. lots-more h s i c.block_of-block.result (c.block_of-block.ensures h s c.args.n t (omega arith)) (sale-stands h s t.sound t.inside t.placed (i + 1) (omega arith) (omega (arith, t.all))) (omega (arith, w.ends, k.fits)) (c.loop-i.invariant.2 h s t) c.put_present-p.ensures,
    )

pub shape_of-out : goal.shape_of-out
shape_of-out c = c.loop-i.invariant.1

pub returns : goal.returns
returns c = λ h s t.
    let e : c.loop-i.i ≡ vertices h = omega (arith, t.all) in
    rw (lots-all h s c.loop-i.i e) at (c.loop-i.invariant.2 h s t)
