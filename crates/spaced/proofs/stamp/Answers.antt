-- `spaced::stamp` meets its contract.
use Rattle.std.proofs.Common.{arith}
use Rattle.spaced.proofs.Stamps.{stamp-low, stamp-high, stamp-twice, stamp-new}
use Rattle.spaced.proofs.stamp.Goals as goal

pub returns-then-v-lt1 : goal.returns-then-v-lt1
returns-then-v-lt1 c = let a = c.args in stamp-low a.v a.vertices a.j a.stamps.now (omega arith) c.requires.1 c.if-v-lt1.true

pub returns-then-vertices-v : goal.returns-then-vertices-v
returns-then-vertices-v c =
    let a = c.args in stamp-high a.v a.vertices a.j a.stamps.now (omega arith) c.requires.1 c.if-vertices-v.true

pub returns-then-stamps-x : goal.returns-then-stamps-x
returns-then-stamps-x c =
    let a = c.args in stamp-twice a.v a.vertices a.j a.stamps.now (omega arith) c.requires.1 (omega arith) (omega arith) c.if-stamps-x.true

pub returns : goal.returns
returns c =
    let a = c.args in stamp-new a.v a.vertices a.j a.stamps.now (omega arith) c.requires.1 (omega arith) (omega arith) c.if-stamps-x.false
