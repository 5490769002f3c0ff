use Rattle.std.proofs.Common.{arith, ◌≡◌, sym, subst, false, ◌≤◌, ◌-◌, ◌+◌, ◌*◌, get_or, ℤ, pos}
use Rattle.std.specs.Int.Signed.{lt_z}
use Rattle.laws.specs.Integer.{read32}
use Rattle.best_move.specs.Rising.{Passed}
use Rattle.best_move.specs.RisingLaw.{passed_none, passed-more, passed-end}
use Rattle.best_move.proofs.rising.next_rising.Goals as goal

pub loop-j-init : goal.loop-j-init
loop-j-init c =
    let a = c.args in
    (c.next_bit-j.ensures.high, passed_none a.gains.now a.blocks.now a.weights.now a.rooms.now a.word a.first a.size a.k _ c.requires.part_ok.0.size-to a.from _ c.next_bit-j.ensures)

pub overflow_cast-blocks : goal.overflow_cast-blocks
overflow_cast-blocks c =
    omega (arith, (c.shared_slice_known-in-loop-j-2-1.given (c.args.first + c.loop-j.j)).fits)

pub rises-requires : goal.rises-requires
rises-requires c =
    let a = c.args in
    let i = a.first + c.loop-j.j in
    let ok = c.requires.part_ok.0 in
    let peak = get_or a.peaks.now (16 + i) (pos 0) in (
      omega (arith, ok.in-gains),
      ok.k-to,
      λ b l. subst (λ (z : ℤ). lt_z z (get_or a.gains.now (16 * i + b) (pos 0)) ≡ false) {x = peak} (sym (read32 peak c.rises-arg-1.given)) (c.requires.peaked.under i b (omega arith) l).1,
    )

pub returns-then-rises : goal.returns-then-rises
returns-then-rises c =
    let a = c.args in
    let l = c.loop-j in
    (omega arith, subst (λ (z : ℤ). Passed a.gains.now a.blocks.now a.weights.now a.rooms.now a.word a.first a.size a.k z a.from l.j) (read32 a.low c.ranges.low.sfits) l.invariant.1)

pub loop-j-preserved : goal.loop-j-preserved
loop-j-preserved c =
    let a = c.args in
    (c.next_bit-j-in-loop-j.ensures.high, passed-more a.gains.now a.blocks.now a.weights.now a.rooms.now a.word a.first a.size a.k _ c.requires.part_ok.0.size-to a.from c.loop-j.j _ (omega arith) c.loop-j.invariant.1 (c.rises.ensures c.if-rises.false) c.next_bit-j-in-loop-j.ensures)

pub returns : goal.returns
returns c =
    let a = c.args in
    let l = c.loop-j in
    passed-end a.gains.now a.blocks.now a.weights.now a.rooms.now a.word a.first a.size a.k _ c.requires.part_ok.0.size-to a.from l.j (omega arith) (subst (λ (z : ℤ). Passed a.gains.now a.blocks.now a.weights.now a.rooms.now a.word a.first a.size a.k z a.from l.j) (read32 a.low c.ranges.low.sfits) l.invariant.1)
