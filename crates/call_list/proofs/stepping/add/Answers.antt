use Rattle.std.proofs.Common.{arith, refl}
use Rattle.model.specs.Catalogue.{capacities}
use Rattle.model.specs.Sale.{call_n}
use Rattle.changes.specs.Stands.{all-lots}
use Rattle.call_list.specs.Late.{late-fits, no-N, at-limit, lot-small, asks-add, added-lots, went-add, refused-add}
use Rattle.call_list.proofs.stepping.add.Goals as goal

pub call_add-requires : goal.call_add-requires
call_add-requires c =
    let can = c.requires in
    record { limits = can.limits; a = can.a; S = _; ceiling = capacities can.a.graph; asks = asks-add can.goes can.under; ceilings-whole = can.ceilings-whole }

pub overflow_cast-lot : goal.overflow_cast-lot
overflow_cast-lot c =
    let can = c.requires in
    omega (arith, lot-small 0 _ _ _ _ _ can.goes.stands.valid can.goes.stands.short (at-limit can.a (call_n _ _ _) can.under.lots-are (c.in-Ok.ensures.turns can.limits can.a _ (capacities can.a.graph) (asks-add can.goes can.under))) refl)

pub put_answer-end-requires : goal.put_answer-end-requires
put_answer-end-requires c =
    let can = c.requires in
    late-fits can (at-limit can.a (call_n _ _ _) can.under.lots-are (c.in-Ok.ensures.turns can.limits can.a _ (capacities can.a.graph) (asks-add can.goes can.under))).says

pub mark_fixed-fixedmarks-requires : goal.mark_fixed-fixedmarks-requires
mark_fixed-fixedmarks-requires c =
    let can = c.requires in
    let w = (at-limit can.a (call_n _ _ _) can.under.lots-are (c.in-Ok.ensures.turns can.limits can.a _ (capacities can.a.graph) (asks-add can.goes can.under))).stands in
    (omega (arith, all-lots w, w.valid.ranges.vertices-high, w.short), omega (arith, all-lots w, w.valid.ranges.vertices-high, w.long.fixed-long))

pub put_answer-requires : goal.put_answer-requires
put_answer-requires c =
    let can = c.requires in
    rw c.number.ensures (late-fits can (at-limit can.a (call_n _ _ _) can.under.lots-are (c.in-Err.ensures.turns can.limits can.a _ (capacities can.a.graph) (asks-add can.goes can.under))).says)

pub returns : goal.returns
returns c = record {
  went = λ limits a old g u.
      let turns = (at-limit a (call_n _ _ _) u.lots-are (c.in-Ok.ensures.turns limits a _ (capacities a.graph) (asks-add g u))) in
      went-add {no = 0} g
      (record {
        turns = turns;
        no-refusal = no-N _ _;
        same-stack = refl;
        unchanged = λ l. absurd (omega (arith, l));
        spared = λ _. c.in-Ok.ensures.spared;
        more = added-lots _ _ _ g.stands turns;
        m-same = refl;
        k-same = refl;
        right = c.in-Ok.ensures.all_right;
        marks = c.mark_fixed-fixedmarks.ensures;
      })
      refl c.put_answer-end.ensures;
}

pub returns-in-Err : goal.returns-in-Err
returns-in-Err c = record {
  went = λ limits a old g u. refused-add g _ (at-limit a (call_n _ _ _) u.lots-are (c.in-Err.ensures.turns limits a _ (capacities a.graph) (asks-add g u))) c.in-Err.ensures.len_after (rw c.number.ensures at c.put_answer.ensures);
}
