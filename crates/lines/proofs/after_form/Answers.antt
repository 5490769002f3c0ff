-- `lines::after_form` meets its contract.
use Rattle.std.proofs.Common.{ap, sym, ◌∙◌, Bool, cond}
use Rattle.std.proofs.Math.Seq.{slice}
use Rattle.model.specs.Grammar.{parts}
use Rattle.refusal.specs.Number.{number_of}
use Rattle.lines.proofs.Fields.{form-bad, form-good}
use Rattle.lines.proofs.after_form.Goals as goal

pub returns-then-count-eq0 : goal.returns-then-count-eq0
returns-then-count-eq0 c =
    let a = c.args in
    let fs = parts 44 (slice a.at a.end a.s.now) in
    sym (ap (λ (t : Bool). cond t (number_of a.q) 2) (form-bad fs (sym c.if-count-eq0.true ∙ c.count.ensures)))

pub returns : goal.returns
returns c =
    let a = c.args in
    let fs = parts 44 (slice a.at a.end a.s.now) in
    sym (ap (λ (t : Bool). cond t (number_of a.q) 2) (form-good c.count.result fs c.count.ensures c.if-count-eq0.false))
