-- `text::read_line` meets its contract.
use Rattle.std.proofs.Common.{sym, ◌∙◌, arith, drop}
use Rattle.std.proofs.Math.Seq.{slice}
use Rattle.model.specs.Grammar.{fields}
use Rattle.text.proofs.Lines.{kept-none, form-no, form-one, form-on, form-kept}
use Rattle.text.proofs.read_line.Goals as goal

pub returns-then-not-word : goal.returns-then-not-word
returns-then-not-word c =
    let a = c.args in
    let f = c.find-a in (
      form-no a.s.now a.w.now a.at a.end f.result (omega arith) (omega arith) f.ensures (sym c.word.ensures ∙ c.if-not-word.true),
      kept-none (drop 1 (fields (slice a.at a.end a.s.now))) 0 a.values.now (omega arith) c.requires.2,
    )

pub returns-then-a-end : goal.returns-then-a-end
returns-then-a-end c =
    let a = c.args in
    let f = c.find-a in (
      form-one a.s.now a.w.now a.at a.end f.result (omega arith) (omega arith) f.ensures (sym c.word.ensures ∙ c.if-not-word.false) c.if-a-end.true,
      kept-none (drop 1 (fields (slice a.at a.end a.s.now))) 1 a.values.now (omega arith) c.requires.2,
    )

pub returns : goal.returns
returns c =
    let a = c.args in
    let f = c.find-a in
    let r = c.read_numbers in (
      r.ensures.0 ∙ form-on a.s.now a.w.now a.at a.end f.result (omega arith) (omega arith) f.ensures (sym c.word.ensures ∙ c.if-not-word.false) (omega arith),
      form-kept a.s.now a.w.now a.at a.end f.result (omega arith) (omega arith) f.ensures (omega arith) r.result r.new.values r.ensures.1,
    )
