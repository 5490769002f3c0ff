use Rattle.std.proofs.Common.{arith, ◌∙◌, ℕ, get_or, rules}
use Rattle.laws.specs.Sum.{sum}
use Rattle.laws.specs.Bit.{bit}
use Rattle.report.proofs.Rows.{nets-none, nets-room, nets-more, nets-all}
use Rattle.report.proofs.closing.put_nets.Goals as goal

pub loop-i-init : goal.loop-i-init
loop-i-init c = (omega arith, search rules, λ h s t. nets-none h s c.args.out.now c.args.at)

pub offset_bounds-visited-i : goal.offset_bounds-visited-i
offset_bounds-visited-i c =
    omega (arith, c.requires.shown.fits)

pub bounds-visited-i : goal.bounds-visited-i
bounds-visited-i c =
    omega (arith, c.requires.shown.fits)

pub put_net-p-requires : goal.put_net-p-requires
put_net-p-requires c =
    let k = c.requires in
    let i : ℕ = c.loop-i.i in
    let bits : ℕ = sum 16 (bit (get_or c.args.visited.now i 0)) in
    let w = c.loop-i.invariant.2 k.h k.s k.shown in
    let more = nets-room k.h k.s i bits (omega (arith, k.shown.all)) (k.shown.counts i (omega arith)) in
    (omega (arith, k.shown.few), omega (arith, w.ends, k.fits, c.loop-i.invariant.1))

pub loop-i-preserved : goal.loop-i-preserved
loop-i-preserved c =
    let k = c.requires in
    let i : ℕ = c.loop-i.i in
    let bits : ℕ = sum 16 (bit (get_or c.args.visited.now i 0)) in
    let w = c.loop-i.invariant.2 k.h k.s k.shown in
    let more = nets-room k.h k.s i bits (omega (arith, k.shown.all)) (k.shown.counts i (omega arith)) in (
      omega arith,
      c.put_net-p.auto.out ∙ c.loop-i.invariant.1,
      λ h s t. nets-more h s i bits (omega (arith, t.all)) (t.counts i (omega arith)) (omega (arith, w.ends, k.fits)) (c.loop-i.invariant.2 h s t) c.put_net-p.ensures,
    )

pub shape_of-out : goal.shape_of-out
shape_of-out c = c.loop-i.invariant.1

pub returns : goal.returns
returns c = λ h s t. rw (nets-all h s c.loop-i.i (omega (arith, t.all))) at (c.loop-i.invariant.2 h s t)
