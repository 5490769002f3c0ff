-- `text::put_short` meets its contract.
use Rattle.std.proofs.Common.{◌+◌, ◌/◌, ◌%◌, ap, sym, ◌∙◌, arith, length-set}
use Rattle.text.specs.Output.{written}
use Rattle.text.proofs.Digits.{digits-small, digits-two, digits-three, length-small, length_two, length_three, written_one, written-two}
use Rattle.text.proofs.put_short.Goals as goal

pub bounds-out-at : goal.bounds-out-at
bounds-out-at c = omega (arith, length-small c.args.x c.if-x-lt10.true)

pub returns-then-x-lt10 : goal.returns-then-x-lt10
returns-then-x-lt10 c =
    let a = c.args in
    let n = length-small a.x c.if-x-lt10.true in
    (omega arith, written_one a.out.now a.at (48 + a.x) (omega arith) ∙ ap (written a.out.now a.at) (sym (digits-small a.x c.if-x-lt10.true)))

pub bounds-out-at-then-x-lt100 : goal.bounds-out-at-then-x-lt100
bounds-out-at-then-x-lt100 c =
    omega (arith, length_two c.args.x c.if-x-lt10.false c.if-x-lt100.true)

pub bounds-out-at-then-x-lt100-2 : goal.bounds-out-at-then-x-lt100-2
bounds-out-at-then-x-lt100-2 c =
    simp length-set (omega (arith, length_two c.args.x c.if-x-lt10.false c.if-x-lt100.true))

pub returns-then-x-lt100 : goal.returns-then-x-lt100
returns-then-x-lt100 c =
    let a = c.args in
    let n = length_two a.x c.if-x-lt10.false c.if-x-lt100.true in
    (omega arith, written-two a.out.now a.at (48 + a.x / 10) (48 + a.x % 10) (omega arith) ∙ ap (written a.out.now a.at) (sym (digits-two a.x c.if-x-lt10.false c.if-x-lt100.true)))

pub put_three-requires : goal.put_three-requires
put_three-requires c =
    omega (arith, length_three c.args.x c.if-x-lt100.false c.requires.0)

pub returns : goal.returns
returns c =
    let a = c.args in
    let e = c.put_three.ensures in
    let k = c.requires.0 in
    (e.0 ∙ ap (λ n. a.at + n) (sym (length_three a.x c.if-x-lt100.false k)), e.1 ∙ ap (written a.out.now a.at) (sym (digits-three a.x c.if-x-lt100.false k)))
