-- `loader::load` meets its contract.
use Rattle.std.proofs.Common.{arith, refl}
use Rattle.std.proofs.lemmas.Result.{err_from_is_err_and}
use Rattle.lines.specs.Line.{limits_of}
use Rattle.loader.proofs.Sales.{too_long, file-fails, calls-fail, file-fits}
use Rattle.loader.proofs.load.Goals as goal

pub returns-then-s-gt60000 : goal.returns-then-s-gt60000
returns-then-s-gt60000 c =
    let a = c.args in
    rw c.at.ensures (too_long (limits_of a.limits) a.s.now _ _ _ _ _ _ c.if-s-gt60000.true)

pub load_catalogue-requires : goal.load_catalogue-requires
load_catalogue-requires c =
    let p = c.requires in
    (omega arith, omega arith, p.0, p.1, p.2, p.5)

pub returns-in_err-catalogue : goal.returns-in_err-catalogue
returns-in_err-catalogue c =
    let a = c.args in
    let p = err_from_is_err_and c.from_residual.result c.from_residual.ensures.1 in
    rw (p.1, p.2) (file-fails (limits_of a.limits) a.s.now _ _ _ _ _ _ (omega (arith, c.if-s-gt60000.false)) c.load_catalogue.result c.load_catalogue.ensures _ c.in_err-catalogue.was)

pub read_calls-requires : goal.read_calls-requires
read_calls-requires c =
    let range = (c.load_catalogue.ensures.accepts _ c.in_ok-catalogue.was).range in
    let w = c.requires.0 in
    (c.load_catalogue.ensures.inside _ c.in_ok-catalogue.was, omega (arith, c.if-s-gt60000.false), omega (arith, range.l-high, range.b-high, w.lots-few, w.few.nets-few), c.requires.3, c.requires.4)

pub returns-in_err-count : goal.returns-in_err-count
returns-in_err-count c =
    let a = c.args in
    let p = err_from_is_err_and c.from_residual-in_err-count.result c.from_residual-in_err-count.ensures.1 in
    rw (p.1, p.2) (calls-fail (limits_of a.limits) a.s.now _ _ _ _ _ _ (omega (arith, c.if-s-gt60000.false)) c.load_catalogue.result c.load_catalogue.ensures _ c.in_ok-catalogue.was _ refl c.read_calls.result c.read_calls.ensures _ c.in_err-count.was)

pub returns : goal.returns
returns c =
    let a = c.args in
    file-fits (limits_of a.limits) a.s.now _ _ _ _ _ _ (omega (arith, c.if-s-gt60000.false)) c.load_catalogue.result c.load_catalogue.ensures _ c.in_ok-catalogue.was _ refl c.read_calls.result c.read_calls.ensures _ c.in_ok-count.was
