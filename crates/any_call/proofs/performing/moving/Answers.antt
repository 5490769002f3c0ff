use Rattle.std.proofs.Common.{refl}
use Rattle.refusal.specs.Number.{handed_on}
use Rattle.any_call.specs.Kinds.{is-M, is-B, is-W, is-P, called-as}
use Rattle.any_call.proofs.performing.moving.Goals as goal

pub call_move-requires : goal.call_move-requires
call_move-requires c =
    record { fixedmarks_len = (c.requires.ready_w.fixed.len, c.requires.ready_w.moving); n_in_bounds = c.requires.n_in_bounds }

pub returns-in_err-moved : goal.returns-in_err-moved
returns-in_err-moved c = record { by_index = λ aboves loaded S h ceiling q f. rw (handed_on _ _ c.from_residual.ensures.1) (called-as (is-M c.args.letter c.args.x c.args.y c.if-letter-eq-M.true) refl (c.in_err-moved.ensures.by_index aboves loaded S h ceiling q f)); keeps_right = c.call_move.ensures.keeps_right }

pub returns-then-letter-eq-M : goal.returns-then-letter-eq-M
returns-then-letter-eq-M c = record { by_index = λ aboves loaded S h ceiling q f. called-as (is-M c.args.letter c.args.x c.args.y c.if-letter-eq-M.true) refl (c.in_ok-moved.ensures.by_index aboves loaded S h ceiling q f); keeps_right = c.call_move.ensures.keeps_right }

pub returns-in_err-reversed : goal.returns-in_err-reversed
returns-in_err-reversed c = record { by_index = λ aboves loaded S h ceiling q f. rw (handed_on _ _ c.from_residual-in_err-reversed.ensures.1) (called-as (is-B c.args.letter c.args.x c.args.y c.if-letter-eq-M.false c.if-letter-eq-B.true) refl (c.in_err-reversed.ensures.by_index aboves loaded S h ceiling)); keeps_right = c.call_back.ensures.keeps_right }

pub returns-then-letter-eq-B : goal.returns-then-letter-eq-B
returns-then-letter-eq-B c = record { by_index = λ aboves loaded S h ceiling q f. called-as (is-B c.args.letter c.args.x c.args.y c.if-letter-eq-M.false c.if-letter-eq-B.true) refl (c.in_ok-reversed.ensures.by_index aboves loaded S h ceiling); keeps_right = c.call_back.ensures.keeps_right }

pub returns-in_err-walked : goal.returns-in_err-walked
returns-in_err-walked c = record { by_index = λ aboves loaded S h ceiling q f. rw (handed_on _ _ c.from_residual-in_err-walked.ensures.1) (called-as (is-W c.args.letter c.args.x c.args.y c.if-letter-eq-M.false c.if-letter-eq-B.false c.if-letter-eq-W.true) refl (c.in_err-walked.ensures.by_index aboves loaded S h ceiling q f)); keeps_right = c.call_walk.ensures.keeps_right }

pub returns-then-letter-eq-W : goal.returns-then-letter-eq-W
returns-then-letter-eq-W c = record { by_index = λ aboves loaded S h ceiling q f. called-as (is-W c.args.letter c.args.x c.args.y c.if-letter-eq-M.false c.if-letter-eq-B.false c.if-letter-eq-W.true) refl (c.in_ok-walked.ensures.by_index aboves loaded S h ceiling q f); keeps_right = c.call_walk.ensures.keeps_right }

pub returns : goal.returns
returns c = record { by_index = λ aboves loaded S h ceiling q f. called-as (is-P c.args.letter c.args.x c.args.y c.if-letter-eq-M.false c.if-letter-eq-B.false c.if-letter-eq-W.false) refl (c.call_polish-polished.ensures.by_index aboves loaded S h ceiling q f); keeps_right = c.call_polish-polished.ensures.keeps_right }
