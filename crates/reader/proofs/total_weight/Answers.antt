use Rattle.std.proofs.Common.{◌≡◌, arith, sym, ◌∙◌, ap, get_or, length, take}
use Rattle.std.proofs.Math.Seq.{length-take-le, get_or-take}
use Rattle.laws.specs.Sum.{sum, sum-zero, sum_step, sum-list}
use Rattle.reader.proofs.total_weight.Goals as goal

pub loop-w-init : goal.loop-w-init
loop-w-init c = (sym (sum-zero (λ x. get_or (take c.args.n c.args.weights.now) x 0)), omega arith)

pub overflow_add-t : goal.overflow_add-t
overflow_add-t c =
    let a = c.args in
    let i = c.loop-w.w-index in
    let size : length (take a.n a.weights.now) ≡ a.n = length-take-le a.n a.weights.now (omega arith) in
    omega (arith, c.from-t.ensures, get_or-take a.n a.weights.now i 0 (omega arith), c.type_inv.weights i)

pub loop-w-preserved : goal.loop-w-preserved
loop-w-preserved c =
    let a = c.args in
    let l = c.loop-w in
    let ws = take a.n a.weights.now in
    let size : length ws ≡ a.n = length-take-le a.n a.weights.now (omega arith) in
    (omega (arith, l.invariant.0, c.from-t.ensures, sum_step l.w-index (λ x. get_or ws x 0)), omega (arith, c.from-t.ensures, l.invariant.1, get_or-take a.n a.weights.now l.w-index 0 (omega arith), c.type_inv.weights l.w-index))

pub returns : goal.returns
returns c =
    let a = c.args in
    let l = c.loop-w in
    let ws = take a.n a.weights.now in
    let size : length ws ≡ a.n = length-take-le a.n a.weights.now (omega arith) in
    (l.invariant.0 ∙ ap (λ k. sum k (λ x. get_or ws x 0)) (omega arith) ∙ sum-list ws 0 (λ x. x), omega (arith, l.invariant.1))
