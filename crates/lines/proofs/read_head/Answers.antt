-- `lines::read_head` meets its contract.
use Rattle.std.proofs.Common.{arith, sym, ◌∙◌}
use Rattle.std.proofs.Math.Seq.{slice}
use Rattle.model.specs.Grammar.{fields}
use Rattle.lines.specs.Line.{limits_of}
use Rattle.lines.proofs.Ranges.{no-sale, sale-ranges}
use Rattle.lines.proofs.Asks.{sale-1, sale-2, sale-3, sale-4, sale-read}
use Rattle.lines.proofs.read_head.Goals as goal

pub get-vertices-requires : goal.get-vertices-requires
get-vertices-requires c = (omega arith, omega arith, c.requires.2.numbered 1 (omega arith) (omega arith))

pub get-nets-requires : goal.get-nets-requires
get-nets-requires c = (omega arith, omega arith, c.requires.2.numbered 2 (omega arith) (omega arith))

pub get-blocks-requires : goal.get-blocks-requires
get-blocks-requires c =
    (omega arith, omega arith, c.requires.2.numbered 3 (omega arith) (omega arith))

pub get-imbalance-requires : goal.get-imbalance-requires
get-imbalance-requires c =
    (omega arith, omega arith, c.requires.2.numbered 4 (omega arith) (omega arith))

pub returns-then-not-between : goal.returns-then-not-between
returns-then-not-between c =
    let a = c.args in
    record { says = λ n. sale-1 (limits_of a.limits) n (fields (slice a.at a.end a.s.now)) c.requires.2.form c.get-vertices.result c.get-nets.result c.get-blocks.result c.get-imbalance.result c.get-vertices.ensures c.get-nets.ensures c.get-blocks.ensures c.get-imbalance.ensures (sym c.between.ensures ∙ c.if-not-between.true); ranges = λ h e. absurd (no-sale e) }

pub returns-then-not-between-2 : goal.returns-then-not-between-2
returns-then-not-between-2 c =
    let a = c.args in
    record { says = λ n. sale-2 (limits_of a.limits) n (fields (slice a.at a.end a.s.now)) c.requires.2.form c.get-vertices.result c.get-nets.result c.get-blocks.result c.get-imbalance.result c.get-vertices.ensures c.get-nets.ensures c.get-blocks.ensures c.get-imbalance.ensures (sym c.between.ensures ∙ c.if-not-between.false) (sym c.between-2.ensures ∙ c.if-not-between-2.true); ranges = λ h e. absurd (no-sale e) }

pub returns-then-not-between-3 : goal.returns-then-not-between-3
returns-then-not-between-3 c =
    let a = c.args in
    record { says = λ n. sale-3 (limits_of a.limits) n (fields (slice a.at a.end a.s.now)) c.requires.2.form c.get-vertices.result c.get-nets.result c.get-blocks.result c.get-imbalance.result c.get-vertices.ensures c.get-nets.ensures c.get-blocks.ensures c.get-imbalance.ensures (sym c.between.ensures ∙ c.if-not-between.false) (sym c.between-2.ensures ∙ c.if-not-between-2.false) (sym c.between-3.ensures ∙ c.if-not-between-3.true); ranges = λ h e. absurd (no-sale e) }

pub returns-then-not-between-4 : goal.returns-then-not-between-4
returns-then-not-between-4 c =
    let a = c.args in
    record { says = λ n. sale-4 (limits_of a.limits) n (fields (slice a.at a.end a.s.now)) c.requires.2.form c.get-vertices.result c.get-nets.result c.get-blocks.result c.get-imbalance.result c.get-vertices.ensures c.get-nets.ensures c.get-blocks.ensures c.get-imbalance.ensures (sym c.between.ensures ∙ c.if-not-between.false) (sym c.between-2.ensures ∙ c.if-not-between-2.false) (sym c.between-3.ensures ∙ c.if-not-between-3.false) (sym c.between-4.ensures ∙ c.if-not-between-4.true); ranges = λ h e. absurd (no-sale e) }

pub returns : goal.returns
returns c =
    let a = c.args in
    let e1 = sym c.between.ensures ∙ c.if-not-between.false in
    let e2 = sym c.between-2.ensures ∙ c.if-not-between-2.false in
    let e3 = sym c.between-3.ensures ∙ c.if-not-between-3.false in
    let e4 = sym c.between-4.ensures ∙ c.if-not-between-4.false in
    record { says = λ n. sale-read (limits_of a.limits) n (fields (slice a.at a.end a.s.now)) c.requires.2.form c.get-vertices.result c.get-nets.result c.get-blocks.result c.get-imbalance.result c.get-vertices.ensures c.get-nets.ensures c.get-blocks.ensures c.get-imbalance.ensures e1 e2 e3 a.estimated c.requires.2.kind e4; ranges = λ h e. sale-ranges (limits_of a.limits) _ e e1 e2 e3 e4 }
