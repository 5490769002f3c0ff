-- `lines::sale_line` meets its contract.
use Rattle.std.proofs.Common.{[], ◌∷◌, arith}
use Rattle.std.proofs.Math.Seq.{slice}
use Rattle.model.specs.Grammar.{fields}
use Rattle.text.proofs.Lines.{line-no}
use Rattle.lines.specs.Line.{limits_of}
use Rattle.lines.proofs.Ranges.{no-sale, announced-est, announced-sale}
use Rattle.lines.proofs.Asks.{sale-form, word-SALE, word-EST}
use Rattle.lines.proofs.sale_line.Goals as goal

pub read_head-requires : goal.read_head-requires
read_head-requires c =
    let a = c.args in
    (omega arith, omega arith, announced-est (slice a.at a.end a.s.now) c.form.result c.form.ensures c.if-form-eq5.true)

pub read_head-requires-then-form-eq5-2 : goal.read_head-requires-then-form-eq5-2
read_head-requires-then-form-eq5-2 c =
    let a = c.args in
    (omega arith, omega arith, announced-sale (slice a.at a.end a.s.now) c.form.result c.form.ensures c.form-2.result c.form-2.ensures c.if-form-eq5.false c.if-form-eq5-2.true)

pub returns : goal.returns
returns c =
    let a = c.args in
    let x = slice a.at a.end a.s.now in
    record {
      says = λ n. sale-form (limits_of a.limits) n (fields x) (line-no "SALE" (83 ∷ 65 ∷ 76 ∷ 69 ∷ []) 4 c.form-2.result x word-SALE c.form-2.ensures c.if-form-eq5-2.false) (line-no "EST" (69 ∷ 83 ∷ 84 ∷ []) 4 c.form.result x word-EST c.form.ensures c.if-form-eq5.false);
      ranges = λ h e. absurd (no-sale e);
    }
