-- `hgr::weigh` meets its contract.
use Rattle.std.proofs.Common.{sym, ◌∙◌, arith}
use Rattle.hgr.proofs.Checks.{weigh-ones}
use Rattle.hgr.specs.Number.{code_of}
use Rattle.hgr.proofs.weigh.Goals as goal

pub returns : goal.returns
returns c =
    let a = c.args in
    weigh-ones (code_of a.code) a.s.now a.at a.vertices a.weights.now (sym c.vertices_weighted.ensures ∙ c.if-vertices_weighted.false) (omega arith) (omega arith) c.requires.2
