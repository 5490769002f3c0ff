-- `share`: one case for each test.
use Rattle.std.proofs.Common.{arith}
use Rattle.best_contraction.specs.BoundLaw.{share-late, share-apart, share-near}
use Rattle.best_contraction.proofs.bounds.share.Goals as goal

pub returns-then-u-y : goal.returns-then-u-y
returns-then-u-y c =
    let a = c.args in
    share-late a.blocks.now a.u a.own a.near a.far a.y c.if-u-y.true

pub returns-then-blocks-y : goal.returns-then-blocks-y
returns-then-blocks-y c =
    let a = c.args in
    share-apart a.blocks.now a.u a.own a.near a.far a.y (omega arith) c.if-blocks-y.true

pub returns : goal.returns
returns c =
    let a = c.args in
    share-near a.blocks.now a.u a.own a.near a.far a.y (omega arith) c.if-blocks-y.false
