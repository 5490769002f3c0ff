-- `lines::check_bales` meets its contract.
use Rattle.std.proofs.Common.{arith, sym, ◌∙◌, true, false, lt-ltb, le-ltb}
use Rattle.lines.proofs.LotLines.{bales-low, bales-high, bales-right}
use Rattle.lines.proofs.check_bales.Goals as goal

pub returns-then-not-between : goal.returns-then-not-between
returns-then-not-between c = let a = c.args in bales-low a.low a.high (sym c.between.ensures ∙ c.if-not-between.true)

pub returns-then-not-between-2 : goal.returns-then-not-between-2
returns-then-not-between-2 c =
    let a = c.args in bales-high a.low a.high (sym c.between.ensures ∙ c.if-not-between.false) (sym c.between-2.ensures ∙ c.if-not-between-2.true)

pub returns-then-high-low : goal.returns-then-high-low
returns-then-high-low c =
    let a = c.args in bales-right a.low a.high (sym c.between.ensures ∙ c.if-not-between.false) (sym c.between-2.ensures ∙ c.if-not-between-2.false) true (lt-ltb a.high a.low (omega arith))

pub returns : goal.returns
returns c =
    let a = c.args in bales-right a.low a.high (sym c.between.ensures ∙ c.if-not-between.false) (sym c.between-2.ensures ∙ c.if-not-between-2.false) false (le-ltb a.high a.low (omega arith))
