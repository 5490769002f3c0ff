use Rattle.std.proofs.Common.{arith, refl, sym, ◌∙◌}
use Rattle.refusal.specs.Number.{number-some, number-above}
use Rattle.model.specs.Catalogue.{main_limits}
use Rattle.model.specs.Machine.{says_n}
use Rattle.model.specs.Hall.{ceiling_beside}
use Rattle.edit_calls.specs.Steps.{told_no}
use Rattle.changes.specs.Stands.{all-lots}
use Rattle.changes.specs.Turning.{turns_told}
use Rattle.desk_calls.specs.Late.{by-none, asks-add, add-says, add_small, add-stands, add-fits, told-by, went-add, refused-add}
use Rattle.desk_calls.proofs.stepping.put_lot.Goals as goal

pub call_add-requires : goal.call_add-requires
call_add-requires c =
    let can = c.requires in
    record { limits = main_limits; a = can.a; S = _; ceiling = ceiling_beside can.o can.a.graph; asks = asks-add can.stays; ceilings-whole = can.ceilings-whole }

pub overflow_cast-lot : goal.overflow_cast-lot
overflow_cast-lot c =
    let can = c.requires in
    omega (arith, add_small can.stays _ _ _ 0 _ _ (c.in-Ok.ensures.turns main_limits can.a _ (ceiling_beside can.o can.a.graph) (asks-add can.stays)) (λ l. absurd (omega (arith, l))) (by-none _))

pub put_answer-end-requires : goal.put_answer-end-requires
put_answer-end-requires c =
    let can = c.requires in
    add-fits can (told-by _ (sym (by-none _)) refl ∙ add-says can.stays _ _ _ 0 _ _ (c.in-Ok.ensures.turns main_limits can.a _ (ceiling_beside can.o can.a.graph) (asks-add can.stays)) (λ l. absurd (omega (arith, l))))

pub mark_fixed-fixedmarks-requires : goal.mark_fixed-fixedmarks-requires
mark_fixed-fixedmarks-requires c =
    let can = c.requires in
    let w = add-stands can.stays _ _ _ 0 _ _ (c.in-Ok.ensures.turns main_limits can.a _ (ceiling_beside can.o can.a.graph) (asks-add can.stays)) (λ l. absurd (omega (arith, l))) in
    (omega (arith, all-lots w, w.valid.ranges.vertices-high, w.short), omega (arith, all-lots w, w.valid.ranges.vertices-high, w.long.fixed-long))

pub relay-told-requires : goal.relay-told-requires
relay-told-requires c =
    let can = c.requires in
    let t = c.in-Err.ensures.turns main_limits can.a _ (ceiling_beside can.o can.a.graph) (asks-add can.stays) in
    (omega (arith, can.stays.goes.stands.runs.sound.follows.world.frame.few), t.stands.runs.sound.loads-fit)

pub put_answer-requires : goal.put_answer-requires
put_answer-requires c =
    let can = c.requires in
    rw c.number.ensures (add-fits can (told-by _ c.relay-told.ensures (sym (told_no _ (says_n 0 0) (number-some _))) ∙ add-says can.stays _ _ _ _ 0 0 (turns_told _ (says_n 0 0) (c.in-Err.ensures.turns main_limits can.a _ (ceiling_beside can.o can.a.graph) (asks-add can.stays))) (λ _. c.in-Err.ensures.len_after)))

pub returns : goal.returns
returns c = record {
  went = λ o a old y. went-add y _ _ _ 0 _ _ (c.in-Ok.ensures.turns main_limits a _ (ceiling_beside o a.graph) (asks-add y)) (λ l. absurd (omega (arith, l))) (λ _. c.in-Ok.ensures.spared) refl refl c.in-Ok.ensures.all_right c.mark_fixed-fixedmarks.ensures
      (told-by _ (sym (by-none _)) refl) c.put_answer-end.ensures;
}

pub returns-in-Err : goal.returns-in-Err
returns-in-Err c = record {
  went = λ o a old y. refused-add y _ _ _ _ 0 0 (turns_told _ (says_n 0 0) (c.in-Err.ensures.turns main_limits a _ (ceiling_beside o a.graph) (asks-add y))) (λ _. c.in-Err.ensures.len_after) (number-above _) (told-by _ c.relay-told.ensures (sym (told_no _ (says_n 0 0) (number-some _)))) (rw c.number.ensures at c.put_answer.ensures);
}
