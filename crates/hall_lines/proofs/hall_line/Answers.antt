-- `hall_lines::hall_line` meets its contract.
use Rattle.std.proofs.Common.{sym, ◌∙◌}
use Rattle.std.proofs.Math.Seq.{slice}
use Rattle.hall_lines.proofs.Headings.{head-form, head-count, head-limit, head_read}
use Rattle.hall_lines.proofs.hall_line.Goals as goal

pub returns-then-read_line-ne3 : goal.returns-then-read_line-ne3
returns-then-read_line-ne3 c =
    let a = c.args in
    let r = c.read_line in
    head-form (slice 0 a.end a.s.now) r.result r.new.values r.ensures.0 r.ensures.1 c.if-read_line-ne3.true

pub returns-then-not-between : goal.returns-then-not-between
returns-then-not-between c =
    let a = c.args in
    let r = c.read_line in
    head-count (slice 0 a.end a.s.now) r.result r.new.values r.ensures.0 r.ensures.1 c.if-read_line-ne3.false (sym c.between.ensures ∙ c.if-not-between.true)

pub returns-then-not-between-2 : goal.returns-then-not-between-2
returns-then-not-between-2 c =
    let a = c.args in
    let r = c.read_line in
    head-limit (slice 0 a.end a.s.now) r.result r.new.values r.ensures.0 r.ensures.1 c.if-read_line-ne3.false (sym c.between.ensures ∙ c.if-not-between.false) (sym c.between-2.ensures ∙ c.if-not-between-2.true)

pub returns : goal.returns
returns c =
    let a = c.args in
    let r = c.read_line in
    head_read (slice 0 a.end a.s.now) r.result r.new.values r.ensures.0 r.ensures.1 c.if-read_line-ne3.false (sym c.between.ensures ∙ c.if-not-between.false) (sym c.between-2.ensures ∙ c.if-not-between-2.false)
