-- `move_pin` by the steps of Steps: the counts, and where one of them is critical the other pins and the row of x.
use Rattle.std.proofs.Common.{arith, refl}
use Rattle.connectivity.specs.Set.{set-depart, depart-shows, set-arrive, arrive-shows}
use Rattle.connectivity.specs.Steps.{count-there, move-others, move-own, move-done, move-idle}
use Rattle.connectivity.proofs.move_pin.Goals as goal

pub depart-requires : goal.depart-requires
depart-requires c =
    let o = c.requires.sets in record { e_in_bounds = omega (arith, o.frame, o.e-in); e_in_bounds_2 = omega (arith, o.frame, o.e-in); a_bound = omega (arith, o.frame, o.a_in); bound = set-depart o; mask_shows = depart-shows o }

pub arrive-requires : goal.arrive-requires
arrive-requires c =
    let o = c.requires.sets in record { e_in_bounds = omega (arith, o.frame, o.e-in, c.depart.ensures.counts-len); e_in_bounds_2 = omega (arith, o.frame, o.e-in, c.depart.ensures.masks-len); b_bound = omega (arith, o.frame, o.b-in); b_bound_2 = set-arrive o c.depart.ensures; mask_shows = arrive-shows o c.depart.ensures }

pub returns-then-fb-gt1 : goal.returns-then-fb-gt1
returns-then-fb-gt1 c =
    move-idle c.requires.sets refl c.requires.le_a.2 (count-there c.requires.le_a.0 refl) (count-there c.requires.le_a.1 refl) c.requires.le_a.0 c.requires.le_a.1 c.if-fa-gt2.true c.if-fb-gt1.true c.depart.ensures c.arrive.ensures

pub touch_others-requires : goal.touch_others-requires
touch_others-requires c =
    move-others c.requires.sets refl c.requires.le_a.2 (count-there c.requires.le_a.0 refl) (count-there c.requires.le_a.1 refl)

pub own_moved-requires : goal.own_moved-requires
own_moved-requires c =
    move-own c.requires.sets refl c.requires.le_a.2 (count-there c.requires.le_a.0 refl) (count-there c.requires.le_a.1 refl) c.touch_others.ensures

pub returns : goal.returns
returns c =
    move-done c.requires.sets refl c.requires.le_a.2 (count-there c.requires.le_a.0 refl) (count-there c.requires.le_a.1 refl) c.touch_others.ensures c.requires.le_a.0 c.requires.le_a.1 c.depart.ensures c.arrive.ensures c.own_moved.ensures
