use Rattle.std.proofs.Common.{refl}
use Rattle.refusal.specs.Number.{handed_on}
use Rattle.any_call.specs.Kinds.{is-J, is-S, called-as}
use Rattle.any_call.proofs.performing.contracting.Goals as goal

pub call_join-requires : goal.call_join-requires
call_join-requires c =
    record { ready_j = record { loads = c.requires.ready_s.loads; loaded = c.args.loadedsizes.now; ready = c.requires.ready_s.ready }; n_in_bounds = c.requires.n_in_bounds }

pub returns-in_err-joined : goal.returns-in_err-joined
returns-in_err-joined c = record { by_index = λ loads h ceiling. rw (handed_on _ _ c.from_residual.ensures.1) (called-as (is-J c.args.letter c.args.x c.args.y c.if-letter-eq-J.true) refl (c.in_err-joined.ensures.by_index loads c.args.loadedsizes.now h ceiling)); keeps_right = c.call_join.ensures.keeps_right }

pub returns-then-letter-eq-J : goal.returns-then-letter-eq-J
returns-then-letter-eq-J c = record { by_index = λ loads h ceiling. called-as (is-J c.args.letter c.args.x c.args.y c.if-letter-eq-J.true) refl (c.in_ok-joined.ensures.by_index loads c.args.loadedsizes.now h ceiling); keeps_right = c.call_join.ensures.keeps_right }

pub returns-in_err-parted : goal.returns-in_err-parted
returns-in_err-parted c = record { by_index = λ loads h ceiling. rw (handed_on _ _ c.from_residual-in_err-parted.ensures.1) (called-as (is-S c.args.letter c.args.x c.args.y c.if-letter-eq-J.false) refl (c.in_err-parted.ensures.by_index loads h ceiling)); keeps_right = c.call_split.ensures.keeps_right }

pub returns : goal.returns
returns c = record { by_index = λ loads h ceiling. called-as (is-S c.args.letter c.args.x c.args.y c.if-letter-eq-J.false) refl (c.in_ok-parted.ensures.by_index loads h ceiling); keeps_right = c.call_split.ensures.keeps_right }
