use Rattle.std.proofs.Common.{◌-◌, arith, sym, ◌∙◌}
use Rattle.model.specs.HallLent.{hall_tables}
use Rattle.hall_columns.specs.Sets.{each-four, long-more, all-long, one-short, too_few}
use Rattle.hall_columns.proofs.is_hall_long.Goals as goal

pub returns-then-not-has_four : goal.returns-then-not-has_four
returns-then-not-has_four c =
    let a = c.args in
    too_few _ (hall_tables a.weights.now a.blocks.now a.aboves.now a.fixed.now a.loadedpins.now a.presentpins.now a.firsts.now a.loadedsizes.now a.presentsizes.now a.counts.now a.gains.now a.index.now a.visited.now) (sym c.has_four.ensures ∙ c.if-not-has_four.true)

pub loop-c-init : goal.loop-c-init
loop-c-init c = ((λ d l. absurd (omega arith)), omega arith)

pub is_set_long-requires : goal.is_set_long-requires
is_set_long-requires c =
    let a = c.args in
    (c.loop-c-test.true, each-four (hall_tables a.weights.now a.blocks.now a.aboves.now a.fixed.now a.loadedpins.now a.presentpins.now a.firsts.now a.loadedsizes.now a.presentsizes.now a.counts.now a.gains.now a.index.now a.visited.now) (sym c.has_four.ensures ∙ c.if-not-has_four.false))

pub returns-then-not-is_set_long : goal.returns-then-not-is_set_long
returns-then-not-is_set_long c =
    let a = c.args in
    one-short a.output.now (hall_tables a.weights.now a.blocks.now a.aboves.now a.fixed.now a.loadedpins.now a.presentpins.now a.firsts.now a.loadedsizes.now a.presentsizes.now a.counts.now a.gains.now a.index.now a.visited.now) _ c.loop-c-test.true (sym c.is_set_long.ensures ∙ c.if-not-is_set_long.true)

pub loop-c-smaller : goal.loop-c-smaller
loop-c-smaller c = omega (arith, c.loop-c-test.true)

pub loop-c-preserved : goal.loop-c-preserved
loop-c-preserved c =
    let a = c.args in
    (long-more a.output.now (hall_tables a.weights.now a.blocks.now a.aboves.now a.fixed.now a.loadedpins.now a.presentpins.now a.firsts.now a.loadedsizes.now a.presentsizes.now a.counts.now a.gains.now a.index.now a.visited.now) _ c.loop-c.invariant.0 (sym c.is_set_long.ensures ∙ c.if-not-is_set_long.false), omega (arith, c.loop-c-test.true))

pub returns : goal.returns
returns c =
    let a = c.args in
    all-long a.output.now (hall_tables a.weights.now a.blocks.now a.aboves.now a.fixed.now a.loadedpins.now a.presentpins.now a.firsts.now a.loadedsizes.now a.presentsizes.now a.counts.now a.gains.now a.index.now a.visited.now) (λ d l. c.loop-c.invariant.0 d (omega (arith, l, c.loop-c-test.false)))
