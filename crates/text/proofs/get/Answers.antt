use Rattle.std.proofs.Common.{◌≡◌, ◌+◌, ◌-◌, arith}
use Rattle.text.proofs.Lines.{get-start, get-inside, get-on, get-here, get_value}
use Rattle.text.proofs.get.Goals as goal

pub loop-init : goal.loop-init
loop-init c =
    let a = c.args in
    let e : a.i - 0 ≡ a.i = omega arith in
    rw e (get-start a.s.now a.at a.end a.i (omega arith) c.requires.2)

pub find-a-requires : goal.find-a-requires
find-a-requires c = (c.loop.invariant.high, omega arith)

pub overflow_add-a : goal.overflow_add-a
overflow_add-a c =
    let a = c.args in
    let l = c.loop in
    let f = c.find-a in
    let inside = get-inside a.s.now a.at a.end a.i l.a (a.i - l.counter) f.result l.invariant (omega arith) f.ensures (omega arith) in
    omega arith

pub loop-preserved : goal.loop-preserved
loop-preserved c =
    let a = c.args in
    let l = c.loop in
    let f = c.find-a in
    let e : a.i - (l.counter + 1) ≡ a.i - l.counter - 1 = omega arith in
    rw e (get-on a.s.now a.at a.end a.i l.a (a.i - l.counter) f.result l.invariant (omega arith) f.ensures (omega arith))

pub read_field-requires : goal.read_field-requires
read_field-requires c =
    let a = c.args in
    let l = c.loop in
    (l.invariant.high, omega arith, get-here a.s.now a.at a.end a.i l.a (a.i - l.counter) l.invariant (omega arith) (omega arith))

pub returns : goal.returns
returns c =
    let a = c.args in
    let l = c.loop in
    let f = c.read_field in
    get_value a.s.now a.at a.end a.i l.a (a.i - l.counter) l.invariant (omega arith) (omega arith) _ _ f.ensures
