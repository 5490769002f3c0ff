-- `set_pin` by the steps of Steps: the row of x, the counts, the other pins, the row of x again.
use Rattle.std.proofs.Common.{arith, refl}
use Rattle.connectivity.specs.Set.{set-depart, depart-shows, set-arrive, arrive-shows}
use Rattle.connectivity.specs.Steps.{set_same, set_own, set-others, set-own-2, set-done}
use Rattle.connectivity.proofs.set_pin.Goals as goal

pub returns-then-a-b : goal.returns-then-a-b
returns-then-a-b c =
    set_same c.requires c.if-a-b.true

pub own_row-requires : goal.own_row-requires
own_row-requires c =
    set_own c.requires refl c.if-a-b.false c.count_at-fa.ensures c.count_at-fb.ensures

pub depart-requires : goal.depart-requires
depart-requires c =
    record { e_in_bounds = omega (arith, c.requires.frame, c.requires.e-in); e_in_bounds_2 = omega (arith, c.requires.frame, c.requires.e-in); a_bound = omega (arith, c.requires.frame, c.requires.a_in); bound = set-depart c.requires; mask_shows = depart-shows c.requires }

pub arrive-requires : goal.arrive-requires
arrive-requires c =
    record { e_in_bounds = omega (arith, c.requires.frame, c.requires.e-in, c.depart.ensures.counts-len); e_in_bounds_2 = omega (arith, c.requires.frame, c.requires.e-in, c.depart.ensures.masks-len); b_bound = omega (arith, c.requires.frame, c.requires.b-in); b_bound_2 = set-arrive c.requires c.depart.ensures; mask_shows = arrive-shows c.requires c.depart.ensures }

pub touch_others-requires : goal.touch_others-requires
touch_others-requires c =
    set-others c.requires refl c.if-a-b.false c.count_at-fa.ensures c.count_at-fb.ensures c.own_row.ensures

pub own_row-requires-2 : goal.own_row-requires-2
own_row-requires-2 c =
    set-own-2 c.requires refl c.if-a-b.false c.count_at-fa.ensures c.count_at-fb.ensures c.own_row.ensures c.depart.ensures c.arrive.ensures c.touch_others.ensures

pub returns : goal.returns
returns c =
    set-done c.requires refl c.if-a-b.false c.count_at-fa.ensures c.count_at-fb.ensures c.own_row.ensures c.depart.ensures c.arrive.ensures c.touch_others.ensures c.own_row-2.ensures
