-- `lines::put_pin` meets its contract.
use Rattle.std.proofs.Common.{arith}
use Rattle.lines.proofs.Stamps.{mark-low, mark-high, mark-twice, mark-full, mark-new}
use Rattle.lines.proofs.put_pin.Goals as goal

pub returns-then-v-lt1 : goal.returns-then-v-lt1
returns-then-v-lt1 c = let a = c.args in mark-low a.v a.vertices a.most a.j a.m a.loadedpins.now a.stamps.now (omega arith) (omega arith) c.requires.2 c.if-v-lt1.true

pub returns-then-vertices-v : goal.returns-then-vertices-v
returns-then-vertices-v c = let a = c.args in mark-high a.v a.vertices a.most a.j a.m a.loadedpins.now a.stamps.now (omega arith) (omega arith) c.requires.2 c.if-vertices-v.true

pub returns-then-stamps-x : goal.returns-then-stamps-x
returns-then-stamps-x c =
    let a = c.args in mark-twice a.v a.vertices a.most a.j a.m a.loadedpins.now a.stamps.now (omega arith) (omega arith) c.requires.2 (omega arith) (omega arith) c.if-stamps-x.true

pub returns-then-most-m : goal.returns-then-most-m
returns-then-most-m c =
    let a = c.args in mark-full a.v a.vertices a.most a.j a.m a.loadedpins.now a.stamps.now (omega arith) (omega arith) c.requires.2 (omega arith) (omega arith) c.if-stamps-x.false (omega arith)

pub returns : goal.returns
returns c =
    let a = c.args in mark-new a.v a.vertices a.most a.j a.m a.loadedpins.now a.stamps.now (omega arith) (omega arith) c.requires.2 (omega arith) (omega arith) c.if-stamps-x.false (omega arith)
