use Rattle.std.proofs.Common.{refl}
use Rattle.refusal.specs.Number.{handed_on}
use Rattle.any_call.specs.Kinds.{any-contracting, any-moving, any-all, called-as}
use Rattle.any_call.specs.FixedStack.{stack-fits, fixed-stack, called-stack}
use Rattle.any_call.proofs.performing.perform.Goals as goal

pub contracting-requires : goal.contracting-requires
contracting-requires c =
    record { ready_s = record { loads = c.args.loads.now; ready = c.requires.ready_a.ready }; n_in_bounds = c.requires.n_in_bounds }

pub returns-then-is_contracting : goal.returns-then-is_contracting
returns-then-is_contracting c = record { called = λ h ceiling p q f. rw (any-contracting c.args.letter c.args.x c.args.y c.is_contracting.ensures c.if-is_contracting.true) (c.contracting.ensures.by_index c.args.loads.now h ceiling); keeps_right = c.contracting.ensures.keeps_right }

pub fixed_in-marks-requires : goal.fixed_in-marks-requires
fixed_in-marks-requires c =
    (c.requires.ready_a.fixed.len, stack-fits c.requires.ready_a.ready.runs)

pub moving-requires : goal.moving-requires
moving-requires c =
    record {
      ready_w = record {
        moving = record { aboves = c.args.aboves.now; loaded = c.args.loadedsizes.now; stack = _; ready = c.requires.ready_a.ready };
        fixed = fixed-stack c.requires.ready_a.ready.runs c.fixed_in-marks.ensures c.requires.ready_a.fixed;
      };
      n_in_bounds = c.requires.n_in_bounds;
    }

pub returns-in_err-moved : goal.returns-in_err-moved
returns-in_err-moved c = record { called = λ h ceiling p q f. rw (handed_on _ _ c.from_residual.ensures.1) (called-as (any-moving c.args.letter c.args.x c.args.y c.is_contracting.ensures c.if-is_contracting.false c.is_moving.ensures c.if-is_moving.true) refl (called-stack c.args.ceilings.now c.requires.ready_a c.fixed_in-marks.ensures (c.in_err-moved.ensures.by_index c.args.aboves.now c.args.loadedsizes.now _) h ceiling q f)); keeps_right = c.moving.ensures.keeps_right }

pub returns-then-is_moving : goal.returns-then-is_moving
returns-then-is_moving c = record { called = λ h ceiling p q f. called-as (any-moving c.args.letter c.args.x c.args.y c.is_contracting.ensures c.if-is_contracting.false c.is_moving.ensures c.if-is_moving.true) refl (called-stack c.args.ceilings.now c.requires.ready_a c.fixed_in-marks.ensures (c.in_ok-moved.ensures.by_index c.args.aboves.now c.args.loadedsizes.now _) h ceiling q f); keeps_right = c.moving.ensures.keeps_right }

pub returns-in_err-cycled : goal.returns-in_err-cycled
returns-in_err-cycled c = record { called = λ h ceiling p q f. rw (handed_on _ _ c.from_residual-in_err-cycled.ensures.1) (called-as (any-all c.args.letter c.args.x c.args.y c.is_contracting.ensures c.if-is_contracting.false c.is_moving.ensures c.if-is_moving.false) refl (c.in_err-cycled.ensures.called h ceiling p q f)); keeps_right = c.call_all.ensures.keeps_right }

pub returns : goal.returns
returns c = record { called = λ h ceiling p q f. called-as (any-all c.args.letter c.args.x c.args.y c.is_contracting.ensures c.if-is_contracting.false c.is_moving.ensures c.if-is_moving.false) refl (c.in_ok-cycled.ensures.called h ceiling p q f); keeps_right = c.call_all.ensures.keeps_right }
