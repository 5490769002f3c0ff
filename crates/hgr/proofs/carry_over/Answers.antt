-- `hgr::carry_over` meets its contract.
use Rattle.std.proofs.Common.{refl, sym, ◌∙◌, arith}
use Rattle.std.proofs.lemmas.Result.{err_from_is_err_and}
use Rattle.conversion.specs.Well.{parts-well}
use Rattle.hgr.proofs.Checks.{carried-within}
use Rattle.hgr.proofs.Whole.{refusal-long, refusal-bad, refusal-judged, verdict-fits}
use Rattle.hgr.proofs.carry_over.Goals as goal

pub returns-then-input-gt60000 : goal.returns-then-input-gt60000
returns-then-input-gt60000 c = (sym (refusal-long c.args.input.now (omega arith)), refl)

pub returns-in_default : goal.returns-in_default
returns-in_default c = (sym (refusal-bad c.args.input.now (omega arith) c.in_default.ensures), refl)

pub judge-requires : goal.judge-requires
judge-requires c =
    let x = c.in-Some.ensures in
    ((λ yes. carried-within c.args.input.now _ x.sound (sym x.seen.carried-is ∙ yes)), x.seen.small, x.seen.weights-len, x.seen.draft-len)

pub returns-in_err-judge : goal.returns-in_err-judge
returns-in_err-judge c =
    let x = c.in-Some.ensures in
    let is = c.in_err-judge.ensures c.args.input.now x.sound x.seen ∙ sym (refusal-judged c.args.input.now (omega arith) (parts-well c.args.input.now x.sound.well)) in
    let p = err_from_is_err_and c.from_residual.result c.from_residual.ensures.1 in
    rw (p.1, p.2) (is, refl)

pub write-requires : goal.write-requires
write-requires c =
    let x = c.in-Some.ensures in
    let told = c.in_ok-judge.ensures c.args.input.now x.sound x.seen in
    (x.sound, told.1, omega (arith, verdict-fits c.args.input.now told.0))

pub returns : goal.returns
returns c =
    let x = c.in-Some.ensures in
    let told = c.in_ok-judge.ensures c.args.input.now x.sound x.seen in
    (refusal-judged c.args.input.now (omega arith) (parts-well c.args.input.now x.sound.well) ∙ told.0, c.write.ensures)
