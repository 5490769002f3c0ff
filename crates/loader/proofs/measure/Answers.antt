-- `loader::measure` meets its contract.
use Rattle.std.proofs.Common.{arith, ◌∙◌, ap, ℕ, ◌+◌, ◌*◌, mul-le-mul_right, take}
use Rattle.model.specs.Catalogue.{nearest}
use Rattle.guarantees.specs.Capacity.{near}
use Rattle.reader.specs.Whole.{average_of}
use Rattle.loader.specs.Tables.{sizes_of}
use Rattle.loader.proofs.measure.Goals as goal

pub overflow_cast-result-2 : goal.overflow_cast-result-2
overflow_cast-result-2 c =
    let a = c.args in
    let e = c.average_weight-average.ensures.0 in
    let x = (1000 + a.c.imbalance) * c.average_weight-average.result in
    omega (arith, c.capacity-capacity.ensures, e, (near x).high, mul-le-mul_right {m = 1000 + a.c.imbalance} {n = 2000} c.average_weight-average.result (omega arith))

pub returns : goal.returns
returns c =
    let a = c.args in
    let e = c.average_weight-average.ensures.0 in
    ap (λ (x : ℕ). sizes_of a.c.vertices a.c.nets a.c.blocks a.c.imbalance a.c.pins x c.capacity-capacity.result) e
    ∙ ap (sizes_of a.c.vertices a.c.nets a.c.blocks a.c.imbalance a.c.pins (average_of a.c.blocks (take a.c.vertices a.lows.now))) (c.capacity-capacity.ensures ∙ ap (λ (x : ℕ). nearest ((1000 + a.c.imbalance) * x)) e)
