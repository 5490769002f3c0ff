use Rattle.std.proofs.Common.{◌≤◌, ◌<◌, ◌+◌, ◌-◌, arith, ◌≡◌, refl}
use Rattle.incidence.specs.On.{cut_min}
use Rattle.search_moves.specs.Marks.{words-none, words_more, words-done}
use Rattle.search_moves.proofs.marks.mark_word.Goals as goal

pub overflow_add-from : goal.overflow_add-from
overflow_add-from c =
    omega (arith, c.requires.0, c.requires.1.bits_fit, c.requires.1.few, c.requires.3)

pub overflow_mul-u : goal.overflow_mul-u
overflow_mul-u c =
    omega (arith, c.requires.0, c.requires.1.bits_fit, c.requires.1.few, c.requires.3)

pub overflow_add-u : goal.overflow_add-u
overflow_add-u c =
    omega (arith, c.requires.0, c.requires.1.bits_fit, c.requires.1.few, c.requires.3)

pub offset_bounds-bits-u : goal.offset_bounds-bits-u
offset_bounds-bits-u c =
    omega (arith, c.requires.0, c.requires.1.bits_fit, c.requires.1.few, c.requires.3)

pub bounds-bits-u : goal.bounds-bits-u
bounds-bits-u c =
    omega (arith, c.requires.0, c.requires.1.bits_fit, c.requires.1.few, c.requires.3)

pub overflow_add-c : goal.overflow_add-c
overflow_add-c c =
    omega (arith, c.requires.0, c.requires.1.bits_fit, c.requires.1.few, c.requires.3)

pub offset_bounds-marks-c : goal.offset_bounds-marks-c
offset_bounds-marks-c c =
    omega (arith, c.requires.0, c.requires.1.bits_fit, c.requires.1.few, c.requires.3)

pub bounds-marks-c : goal.bounds-marks-c
bounds-marks-c c =
    omega (arith, c.requires.0, c.requires.1.bits_fit, c.requires.1.few, c.requires.3)

pub loop-j-init : goal.loop-j-init
loop-j-init c =
    (c.next_bit-j.ensures.high, c.next_bit-j.ensures.found, words-none c.args.bits.now c.args.presentpins.now c.args.firsts.now c.args.presentsizes.now c.args.u c.args.m c.args.from c.min-to.result _ _ c.fresh-nets.result c.args.marks.now c.requires.1.few c.requires.3 c.requires.4 (cut_min _ _ _ c.min-to.ensures) refl refl c.fresh-nets.ensures c.next_bit-j.result c.next_bit-j.ensures c.requires.2)

pub overflow_add-from-in-loop-j : goal.overflow_add-from-in-loop-j
overflow_add-from-in-loop-j c =
    omega (arith, c.loop-j.invariant.0, c.min-to.ensures, c.requires.1.few, c.requires.3)

pub overflow_add-from-in-loop-j-2 : goal.overflow_add-from-in-loop-j-2
overflow_add-from-in-loop-j-2 c =
    omega (arith, c.loop-j.invariant.0, c.min-to.ensures, c.requires.1.few, c.requires.3)

pub mark_net-requires : goal.mark_net-requires
mark_net-requires c =
    let below : c.args.from + c.loop-j.j < c.args.m = omega (arith, c.loop-j-test.true, c.min-to.ensures) in (
      omega (arith, c.requires.0, c.loop-j.invariant.2.len),
      omega (arith, below, c.requires.1.few),
      omega (arith, below, c.requires.1.firsts-fit),
      omega (arith, below, c.requires.1.sizes-fit),
      c.requires.1.nets (c.args.from + c.loop-j.j) below,
      c.loop-j.invariant.2.covered,
      c.requires.5.row (c.args.from + c.loop-j.j) below,
    )

pub overflow_add-j : goal.overflow_add-j
overflow_add-j c =
    omega (arith, c.loop-j.invariant.0)

pub next_bit-j-requires-in-loop-j : goal.next_bit-j-requires-in-loop-j
next_bit-j-requires-in-loop-j c =
    omega (arith, c.loop-j-test.true, c.min-to.ensures)

pub loop-j-smaller : goal.loop-j-smaller
loop-j-smaller c = omega (arith, c.next_bit-j-in-loop-j.ensures.low, c.next_bit-j-in-loop-j.ensures.high)

pub loop-j-preserved : goal.loop-j-preserved
loop-j-preserved c =
    let small : c.loop-j.j < 64 = omega (arith, c.loop-j-test.true, c.min-to.ensures) in
    (c.next_bit-j-in-loop-j.ensures.high, c.next_bit-j-in-loop-j.ensures.found, words_more c.args.bits.now c.args.presentpins.now c.args.firsts.now c.args.presentsizes.now c.args.u c.args.m c.args.from c.min-to.result _ _ c.fresh-nets.result c.args.marks.now c.requires.1.few c.requires.3 c.requires.4 (cut_min _ _ _ c.min-to.ensures) refl refl c.fresh-nets.ensures c.loop-j.j c.next_bit-j-in-loop-j.result c.loop-j-test.true small (c.loop-j.invariant.1 small) c.loop-j.invariant.2 c.mark_net.ensures.0 c.mark_net.ensures.1 c.mark_net.ensures.2 c.next_bit-j-in-loop-j.ensures)

pub returns : goal.returns
returns c =
    words-done c.args.bits.now c.args.presentpins.now c.args.firsts.now c.args.presentsizes.now c.args.u c.args.m c.args.from c.min-to.result _ _ c.fresh-nets.result c.args.marks.now c.requires.1.few c.requires.3 c.requires.4 (cut_min _ _ _ c.min-to.ensures) refl refl c.fresh-nets.ensures c.loop-j.j (omega arith) c.loop-j.invariant.2
