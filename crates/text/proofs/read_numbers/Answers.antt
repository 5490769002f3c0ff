use Rattle.std.proofs.Common.{arith}
use Rattle.std.proofs.Math.Seq.{slice}
use Rattle.model.specs.Grammar.{parts}
use Rattle.text.proofs.Lines.{numbers-start, kept-none, numbers-bad, numbers-kept, numbers-last, numbers_on}
use Rattle.text.proofs.read_numbers.Goals as goal

pub loop-f-init : goal.loop-f-init
loop-f-init c =
    let a = c.args in
    let p = c.requires in
    numbers-start a.s.now a.at a.end a.values.now p.0 p.1 p.3

pub read_number-requires : goal.read_number-requires
read_number-requires c = (c.loop-f.invariant.high, omega arith)

pub returns-in_default : goal.returns-in_default
returns-in_default c =
    let a = c.args in
    let l = c.loop-f in (
      numbers-bad a.s.now a.at a.end l.k l.i l.values l.invariant (omega arith) c.in_default.ensures,
      kept-none (parts 44 (slice a.at a.end a.s.now)) 0 l.values (omega arith) l.invariant.kept.len,
    )

pub keep-requires : goal.keep-requires
keep-requires c =
    (c.loop-f.invariant.low, c.loop-f.invariant.kept.len)

pub overflow_add-k : goal.overflow_add-k
overflow_add-k c =
    omega (arith, c.loop-f.invariant.below, c.loop-f.invariant.high)

pub returns-then-f-end : goal.returns-then-f-end
returns-then-f-end c =
    let a = c.args in
    let l = c.loop-f in
    let f = c.in-Some.f in
    let read = c.in-Some.ensures in
    let q = c.keep in (
      numbers-last a.s.now a.at a.end l.k l.i l.values l.invariant (omega arith) f.value f.end read.1 read.0 q.new.values q.ensures c.if-f-end.true,
      numbers-kept a.s.now a.at a.end l.k l.i l.values l.invariant (omega arith) f.value f.end read.1 read.0 q.new.values q.ensures,
    )

pub overflow_add-i : goal.overflow_add-i
overflow_add-i c =
    omega (arith, c.in-Some.ensures.1.ends.high)

pub loop-f-smaller : goal.loop-f-smaller
loop-f-smaller c =
    omega (arith, c.in-Some.ensures.0, c.in-Some.ensures.1.ends.high)

pub loop-f-preserved : goal.loop-f-preserved
loop-f-preserved c =
    let a = c.args in
    let l = c.loop-f in
    let f = c.in-Some.f in
    let read = c.in-Some.ensures in
    let q = c.keep in
    numbers_on a.s.now a.at a.end l.k l.i l.values l.invariant (omega arith) f.value f.end read.1 read.0 q.new.values q.ensures (omega (arith, read.1.ends.high))
