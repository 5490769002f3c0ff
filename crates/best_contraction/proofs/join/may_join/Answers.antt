-- `may_join`: one case for each test.
use Rattle.std.proofs.Common.{arith}
use Rattle.best_contraction.specs.PartnerLaw.{fits-early, fits-apart, fits-heavy, fits-left}
use Rattle.best_contraction.proofs.join.may_join.Goals as goal

pub returns-then-y-u : goal.returns-then-y-u
returns-then-y-u c =
    let a = c.args in
    fits-early a.blocks.now a.weights.now a.u a.own a.a a.limit a.y c.if-y-u.true

pub returns-then-blocks-y : goal.returns-then-blocks-y
returns-then-blocks-y c =
    let a = c.args in
    fits-apart a.blocks.now a.weights.now a.u a.own a.a a.limit a.y c.if-blocks-y.true

pub returns-then-limit-a : goal.returns-then-limit-a
returns-then-limit-a c =
    let a = c.args in
    fits-heavy a.blocks.now a.weights.now a.u a.own a.a a.limit a.y c.if-limit-a.true

pub returns : goal.returns
returns c =
    let a = c.args in
    fits-left a.blocks.now a.weights.now a.u a.own a.a a.limit a.y c.from.result (omega (arith, c.if-y-u.false)) c.if-blocks-y.false c.if-limit-a.false c.from.ensures
