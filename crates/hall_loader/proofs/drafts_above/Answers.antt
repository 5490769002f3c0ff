use Rattle.std.proofs.Common.{arith}
use Rattle.hall_loader.proofs.Weighing.{above-start, above-found, above_on, above-done}
use Rattle.hall_loader.proofs.drafts_above.Goals as goal

pub loop-t-init : goal.loop-t-init
loop-t-init c = above-start _ _ _ _ _ c.requires

pub draft_bales-requires : goal.draft_bales-requires
draft_bales-requires c = c.loop-t.invariant.light

pub returns-then-most-draft_bales : goal.returns-then-most-draft_bales
returns-then-most-draft_bales c = above-found _ _ _ _ _ _ c.loop-t.invariant c.loop-t-test.true _ c.draft_bales.ensures (omega (arith, c.from-most.ensures, c.if-most-draft_bales.true))

pub loop-t-preserved : goal.loop-t-preserved
loop-t-preserved c = above_on _ _ _ _ _ _ c.loop-t.invariant c.loop-t-test.true _ c.draft_bales.ensures (omega (arith, c.from-most.ensures, c.if-most-draft_bales.false))

pub returns : goal.returns
returns c = above-done _ _ _ _ _ _ c.loop-t.invariant (omega (arith, c.loop-t.invariant.t-le, c.loop-t-test.false))
