-- The measure: the number of steps.
use Rattle.climbs.proofs.+representative.Given as goal

abbrev pub decreases-representative : goal.decreases-representative
decreases-representative l = l.steps
