-- `text::keep` meets its contract.
use Rattle.text.proofs.Lines.{keeps-past, keeps-one}
use Rattle.text.proofs.keep.Goals as goal

pub returns-then-k-gt4 : goal.returns-then-k-gt4
returns-then-k-gt4 c = let a = c.args in keeps-past a.k a.v a.values.now c.if-k-gt4.true

pub returns : goal.returns
returns c = let a = c.args in keeps-one a.k a.v a.values.now c.requires.0 c.if-k-gt4.false c.requires.1
