use Rattle.std.proofs.Common.{ℕ, subst, arith}
use Rattle.spaced.specs.Row.{DigitsRead}
use Rattle.spaced.proofs.Digits.{word-start, word-space, word-last, word_low, word-high, word-long, word_room, word_on}
use Rattle.spaced.proofs.number.Goals as goal

pub loop-i-init : goal.loop-i-init
loop-i-init c = let a = c.args in word-start a.s.now a.at a.end (omega arith)

pub returns-then-b-eq32 : goal.returns-then-b-eq32
returns-then-b-eq32 c =
    let a = c.args in
    let l = c.loop-i in
    c.digits_word.ensures a.end (word-space a.s.now a.at a.end l.v l.i (omega arith) (omega arith) l.invariant (omega arith) c.if-b-eq32.true)

pub returns-then-b-lt48 : goal.returns-then-b-lt48
returns-then-b-lt48 c =
    let a = c.args in
    let l = c.loop-i in
    word_low a.s.now a.at a.end l.v l.i (omega arith) (omega arith) l.invariant (omega arith) c.if-b-eq32.false c.if-b-lt48.true

pub returns-then-b-gt57 : goal.returns-then-b-gt57
returns-then-b-gt57 c =
    let a = c.args in
    let l = c.loop-i in
    word-high a.s.now a.at a.end l.v l.i (omega arith) (omega arith) l.invariant (omega arith) c.if-b-eq32.false (omega arith) c.if-b-gt57.true

pub returns-then-i-at-ge9 : goal.returns-then-i-at-ge9
returns-then-i-at-ge9 c =
    let a = c.args in
    let l = c.loop-i in
    word-long a.s.now a.at a.end l.v l.i (omega arith) (omega arith) l.invariant (omega arith) c.if-b-eq32.false (omega arith) c.if-i-at-ge9.true

pub overflow_mul-v : goal.overflow_mul-v
overflow_mul-v c =
    let a = c.args in
    let l = c.loop-i in
    omega (arith, word_room a.s.now a.at a.end l.v l.i (omega arith) (omega arith) l.invariant (omega arith) c.if-b-eq32.false (omega arith) (omega arith) (omega arith))

pub overflow_add-v : goal.overflow_add-v
overflow_add-v c =
    let a = c.args in
    let l = c.loop-i in
    omega (arith, word_room a.s.now a.at a.end l.v l.i (omega arith) (omega arith) l.invariant (omega arith) c.if-b-eq32.false (omega arith) (omega arith) (omega arith))

pub loop-i-preserved : goal.loop-i-preserved
loop-i-preserved c =
    let a = c.args in
    let l = c.loop-i in
    word_on a.s.now a.at a.end l.v l.i (omega arith) (omega arith) l.invariant (omega arith) c.if-b-eq32.false (omega arith) (omega arith) (omega arith)

pub returns : goal.returns
returns c =
    let a = c.args in
    let l = c.loop-i in
    c.digits_word-2.ensures a.end (subst (λ (i : ℕ). DigitsRead a.s.now a.at a.end i l.v) (omega arith) (word-last a.s.now a.at a.end l.v l.i (omega arith) (omega arith) l.invariant (omega (arith, c.loop-i.invariant.high))))
