-- `passes::pass_part` meets its contract.
use Rattle.std.proofs.Common.{sym, ◌∙◌}
use Rattle.model.specs.Grammar.{bytes}
use Rattle.passes.proofs.Rows.{part-other, part-here}
use Rattle.passes.proofs.pass_part.Goals as goal

pub returns-then-not-word : goal.returns-then-not-word
unfolding bytes
returns-then-not-word c =
    let a = c.args in
    part-other a.s.now a.at c.in_ok-x.x.start c.in_ok-x.x.end c.in_ok-x.ensures (sym c.word.ensures ∙ c.if-not-word.true)

pub returns : goal.returns
unfolding bytes
returns c =
    let a = c.args in
    part-here a.s.now a.at c.in_ok-x.x.start c.in_ok-x.x.end c.in_ok-x.ensures (sym c.word.ensures ∙ c.if-not-word.false)
