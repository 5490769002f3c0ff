use Rattle.std.proofs.Common.{arith, refl}
use Rattle.model.specs.Catalogue.{capacities}
use Rattle.model.specs.Sale.{space_of}
use Rattle.changes.specs.Stands.{all-lots}
use Rattle.call_list.specs.Late.{late-fits, no-X, went-withdraw, refused-withdraw}
use Rattle.call_list.proofs.stepping.withdraw.Goals as goal

pub call_withdraw-requires : goal.call_withdraw-requires
call_withdraw-requires c =
    let can = c.requires in
    record { limits = can.limits; a = can.a; S = _; joins-are = refl; stands = can.goes.stands; room = can.free-room }

pub put_answer-end-requires : goal.put_answer-end-requires
put_answer-end-requires c =
    let can = c.requires in
    late-fits can (c.in-Ok.ensures.turns can.limits can.a _ (space_of can.limits) (capacities can.a.graph) refl can.goes.stands).says

pub mark_fixed-fixedmarks-requires : goal.mark_fixed-fixedmarks-requires
mark_fixed-fixedmarks-requires c =
    let w = c.requires.goes.stands in
    let fixed_same = c.call_withdraw.auto.fixed in
    (omega (arith, all-lots w, w.valid.ranges.vertices-high, w.short), omega (arith, all-lots w, w.valid.ranges.vertices-high, w.long.fixed-long, fixed_same))

pub put_answer-requires : goal.put_answer-requires
put_answer-requires c =
    let can = c.requires in
    rw c.number.ensures (late-fits can (c.in-Err.ensures.turns can.limits can.a _ (space_of can.limits) (capacities can.a.graph) refl can.goes.stands).says)

pub returns : goal.returns
returns c = record {
  went = λ limits a old g u. went-withdraw {no = 0} g
      (record {
        turns = c.in-Ok.ensures.turns limits a _ (space_of limits) (capacities a.graph) refl g.stands;
        no-refusal = no-X _;
        same-stack = refl;
        unchanged = λ l. absurd (omega (arith, l));
        spared = λ _. c.in-Ok.ensures.spared;
        more = omega arith;
        m-same = refl;
        k-same = refl;
        right = c.in-Ok.ensures.all_right;
        marks = c.mark_fixed-fixedmarks.ensures;
      })
      refl c.put_answer-end.ensures;
}

pub returns-in-Err : goal.returns-in-Err
returns-in-Err c = record {
  went = λ limits a old g u. refused-withdraw g _ (c.in-Err.ensures.turns limits a _ (space_of limits) (capacities a.graph) refl g.stands) c.in-Err.ensures.len_after (rw c.number.ensures at c.put_answer.ensures);
}
