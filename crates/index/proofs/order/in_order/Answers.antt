use Rattle.std.proofs.Common.{arith, ◌≡◌, sym, ◌∙◌, ◌-◌, ◌<◌, subst, true≢false, eqb-true}
use Rattle.index.specs.Row.{gain_at, row_at}
use Rattle.index.specs.Checked.{OrderedTo, ordered-none, ordered-more, last_none, last_more, last-ahead, row-right}
use Rattle.index.proofs.order.in_order.Goals as goal

pub loop-j-init : goal.loop-j-init
loop-j-init c =
    let a = c.args in
    let gain = gain_at a.gains.now a.x in
    (ordered-none gain a.own a.k a.index.now a.x, last_none gain a.own a.k a.index.now a.x _)

pub returns-then-not-is_other : goal.returns-then-not-is_other
returns-then-not-is_other c = λ e. absurd (true≢false (sym e))

pub key_of-key-requires : goal.key_of-key-requires
key_of-key-requires c = let h = c.is_other.ensures c.if-not-is_other.false in (omega arith, omega arith, (h.0, omega (arith, h.1)))

pub returns-then-last-key : goal.returns-then-last-key
returns-then-last-key c = λ e. absurd (true≢false (sym e))

pub loop-j-preserved : goal.loop-j-preserved
loop-j-preserved c =
    let a = c.args in
    let i = c.loop-j in
    let gain = gain_at a.gains.now a.x in
    let e = c.from-b.ensures in
    let other = c.is_other.ensures c.if-not-is_other.false in
    let key = c.key_of-key.ensures in (
      ordered-more gain a.own a.k a.index.now a.x _ i.j e other (last-ahead gain a.own a.k a.index.now a.x _ i.j _ e key i.last c.requires.0.k-to other i.invariant.0 i.invariant.1 (omega arith)) i.invariant.0,
      last_more gain a.own a.k a.index.now a.x _ i.j _ e key,
    )

pub returns : goal.returns
returns c =
    let a = c.args in
    let i = c.loop-j in
    let gain = gain_at a.gains.now a.x in
    let last : i.j ≡ a.k - 1 = omega arith in
    λ e. row-right gain a.own a.k a.index.now a.x (subst (OrderedTo gain a.own a.k a.index.now a.x) last i.invariant.0) c.requires.1 c.requires.2
    (eqb-true (row_at a.index.now a.x (a.k - 1)) 0 e)
