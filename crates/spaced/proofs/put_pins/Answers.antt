use Rattle.std.proofs.Common.{arith}
use Rattle.std.proofs.lemmas.Bool.{some_since}
use Rattle.spaced.proofs.Words.{word-well}
use Rattle.spaced.proofs.Edges.{put-room, put_last, put_on}
use Rattle.spaced.proofs.put_pins.Goals as goal

pub unwrap-x-requires : goal.unwrap-x-requires
unwrap-x-requires c =
    let a = c.args in
    let l = c.loop-at in
    some_since _ _ _ c.number.ensures (λ word. word-well a.s.now l.i a.end (omega arith) (omega arith) word l.invariant.are)

pub put_field-q-requires : goal.put_field-q-requires
put_field-q-requires c =
    let a = c.args in
    let l = c.loop-at in
    let x = c.unwrap-x.result in
    let word = rw c.unwrap-x.ensures at c.number.ensures in
    put-room a.s.now a.at a.end a.out.now a.p l.out l.i l.q l.invariant (omega arith) c.requires.3 x.end x.value word.ends word.value-is

pub returns-then-e-end : goal.returns-then-e-end
returns-then-e-end c =
    let a = c.args in
    let l = c.loop-at in
    let x = c.unwrap-x.result in
    let word = rw c.unwrap-x.ensures at c.number.ensures in
    put_last a.s.now a.at a.end a.out.now a.p l.out l.i l.q l.invariant (omega arith) c.requires.3 x.end x.value word.ends word.value-is _ _ c.put_field-q.ensures c.if-e-end.true

pub loop-at-preserved : goal.loop-at-preserved
loop-at-preserved c =
    let a = c.args in
    let l = c.loop-at in
    let x = c.unwrap-x.result in
    let word = rw c.unwrap-x.ensures at c.number.ensures in
    put_on a.s.now a.at a.end a.out.now a.p l.out l.i l.q l.invariant (omega arith) c.requires.3 x.end x.value word.ends word.value-is _ _ c.put_field-q.ensures c.skip-i.result (omega (arith, word.high)) c.skip-i.ensures
