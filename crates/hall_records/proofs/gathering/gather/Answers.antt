use Rattle.std.proofs.Common.{◌≡◌, refl, subst, ◌∙◌, ℕ, ◌≤◌, ◌<◌, ◌-◌, arith, length-set, replicate}
use Rattle.std.proofs.lemmas.List.{length-replicate}
use Rattle.laws.specs.Choice.{one-le}
use Rattle.records.specs.Fields.{blank}
use Rattle.hall_records.specs.Gathered.{in_use, Gathered, gathered_none, gathered-more}
use Rattle.hall_records.proofs.gathering.gather.Goals as goal

pub loop-k-init : goal.loop-k-init
loop-k-init c = (omega arith, length-replicate {A = ℕ} 4096 0, length-replicate 4096 blank, gathered_none c.args.counts c.args.weights.now c.args.blocks.now c.args.aboves.now c.args.fixed.now (replicate 4096 0) (replicate 4096 blank))

pub overflow_add-n : goal.overflow_add-n
overflow_add-n c = record { fits = omega (arith, c.used-n.ensures, one-le (in_use c.args.counts c.loop-k.k), c.loop-k.invariant.3.few, c.loop-k.invariant.0) }

pub loop-k-preserved : goal.loop-k-preserved
loop-k-preserved c =
    let a = c.args in
    let k = c.loop-k.k in
    let n = c.loop-k.n in
    let g = c.loop-k.invariant.3 in
    let small : n < 4096 = omega (arith, g.few, c.loop-k-test.true) in (
      omega (arith, c.loop-k-test.true),
      length-set c.loop-k.places n k ∙ c.loop-k.invariant.1,
      length-set c.loop-k.lots n c.lot_of.result ∙ c.loop-k.invariant.2,
      gathered-more a.counts a.weights.now a.blocks.now a.aboves.now a.fixed.now k n c.used-n.result c.loop-k.places c.loop-k.lots c.lot_of.result c.used-n.ensures c.lot_of.ensures (omega (arith, small, c.loop-k.invariant.1)) (omega (arith, small, c.loop-k.invariant.2)) g,
    )

pub returns : goal.returns
returns c =
    let all : c.loop-k.k ≡ 4096 = omega (arith, c.loop-k.invariant.0, c.loop-k-test.false) in
    let a = c.args in
    record { gathered = subst (λ (k : ℕ). Gathered a.counts a.weights.now a.blocks.now a.aboves.now a.fixed.now k c.loop-k.n c.loop-k.places c.loop-k.lots) all c.loop-k.invariant.3; code_is = refl; written_is = refl }
