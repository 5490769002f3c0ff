use Rattle.std.proofs.Common.{arith, ◌∙◌, rules}
use Rattle.fields.proofs.Laws.{fields-none, fields-room, fields-more, fields-last, fields-end}
use Rattle.fields.proofs.put_tail.Goals as goal

pub loop-x-init : goal.loop-x-init
loop-x-init c = (omega arith, search rules, fields-none c.args.out.now c.args.at)

pub put_field-p-requires : goal.put_field-p-requires
put_field-p-requires c =
    omega (arith, fields-room c.args.xs.now c.loop-x.x-index (omega arith))

pub loop-x-preserved : goal.loop-x-preserved
loop-x-preserved c = (
  omega arith,
  c.put_field-p.auto.out ∙ c.loop-x.invariant.1,
  fields-more c.args.xs.now c.loop-x.x-index (omega arith) (omega arith) c.loop-x.invariant.2 c.put_field-p.ensures,
)

pub bounds-out-p : goal.bounds-out-p
bounds-out-p c =
    omega (arith, fields-last c.args.xs.now c.loop-x.x-index (omega arith) (omega arith) c.loop-x.invariant.2)

pub overflow_add-result : goal.overflow_add-result
overflow_add-result c =
    omega (arith, fields-last c.args.xs.now c.loop-x.x-index (omega arith) (omega arith) c.loop-x.invariant.2)

pub returns : goal.returns
returns c =
    fields-end c.args.xs.now c.loop-x.x-index (omega arith) (omega arith) c.loop-x.invariant.2
