-- `text::word` meets its contract.
use Rattle.std.proofs.Common.{arith, ◌∙◌}
use Rattle.text.proofs.Compare.{slice-same}
use Rattle.text.proofs.word.Goals as goal

pub returns : goal.returns
returns c = let a = c.args in c.eq.ensures ∙ slice-same a.s.now a.w.now a.at a.end (omega arith)
