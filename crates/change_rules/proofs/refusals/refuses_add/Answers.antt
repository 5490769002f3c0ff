-- `refuses_add` meets its contract: each arm is that of N's refusals in their order.
use Rattle.std.proofs.Common.{arith, sym, ap, ◌∙◌, Bool, cond, not}
use Rattle.change_rules.specs.Named.{all-each}
use Rattle.change_rules.specs.Refusal.{in-9, in-16, in-known, in-22, in-23, in-last}
use Rattle.change_rules.proofs.refusals.refuses_add.Goals as goal

pub returns-then-not-knows : goal.returns-then-not-knows
returns-then-not-knows c =
    (in-9 _ _ _ _ _ _ _ _ _ _ _ _ c.knows.ensures (ap not c.if-not-knows.true), λ e. absurd (omega arith))

pub returns-then-joins-gt0 : goal.returns-then-joins-gt0
returns-then-joins-gt0 c =
    (in-16 _ _ _ _ _ _ _ _ _ _ _ _ c.knows.ensures (ap not c.if-not-knows.false) c.if-joins-gt0.true, λ e. absurd (omega arith))

pub mark_buyers-requires : goal.mark_buyers-requires
mark_buyers-requires c =
    let a = c.args in
    let k = in-known a.loads.now a.ceilings.now a.buyers.now a.m a.k a.joins a.lots a.lotroom a.marks a.markroom a.bales a.session c.knows.ensures (ap not c.if-not-knows.false) in
    (c.requires.0, λ i l. let r = all-each a.buyers.now a.m k.2 i l in (r.0, omega (arith, r.1, c.requires.1)))

pub returns-then-mark_buyers : goal.returns-then-mark_buyers
returns-then-mark_buyers c =
    (in-22 _ _ _ _ _ _ _ _ _ _ _ _ c.knows.ensures (ap not c.if-not-knows.false) (omega (arith, c.if-joins-gt0.false)) c.mark_buyers.ensures.0 c.if-mark_buyers.true, λ e. absurd (omega arith))

pub returns-then-is_full : goal.returns-then-is_full
returns-then-is_full c =
    (in-23 _ _ _ _ _ _ _ _ _ _ _ _ c.knows.ensures (ap not c.if-not-knows.false) (omega (arith, c.if-joins-gt0.false)) c.mark_buyers.ensures.0 c.if-mark_buyers.false c.is_full.ensures c.if-is_full.true, λ e. absurd (omega arith))

pub has_space-requires : goal.has_space-requires
has_space-requires c =
    let a = c.args in
    let k = in-known a.loads.now a.ceilings.now a.buyers.now a.m a.k a.joins a.lots a.lotroom a.marks a.markroom a.bales a.session c.knows.ensures (ap not c.if-not-knows.false) in
    (k.0, omega (arith, k.1, c.requires.2), c.requires.3, c.requires.4)

pub returns-then-not-has_space : goal.returns-then-not-has_space
returns-then-not-has_space c =
    (in-last _ _ _ _ _ _ _ _ _ _ _ _ c.knows.ensures (ap not c.if-not-knows.false) (omega (arith, c.if-joins-gt0.false)) c.mark_buyers.ensures.0 c.if-mark_buyers.false c.is_full.ensures c.if-is_full.false c.has_space.ensures 14 (sym (ap (λ (b : Bool). cond b 14 0) (ap not c.if-not-has_space.true))), λ e. absurd (omega arith))

pub returns : goal.returns
returns c =
    (in-last _ _ _ _ _ _ _ _ _ _ _ _ c.knows.ensures (ap not c.if-not-knows.false) (omega (arith, c.if-joins-gt0.false)) c.mark_buyers.ensures.0 c.if-mark_buyers.false c.is_full.ensures c.if-is_full.false c.has_space.ensures 0 (sym (ap (λ (b : Bool). cond b 14 0) (ap not c.if-not-has_space.false))), λ e. c.mark_buyers.ensures.1 c.if-mark_buyers.false)
