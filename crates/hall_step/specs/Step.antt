-- A call line on the set of one catalogue: what it needs and does. Rests on Sets and on desk_calls' Desk. Assumes nothing.
use Rattle.std.specs.Prelude.{ℕ, ◌<◌, ◌≡◌, List, [], get_or}
use Rattle.model.specs.Sale.{Request}
use Rattle.call_list.specs.declared.course.Course.{Course}
use Rattle.desk_calls.specs.Desk.{Numbers, Steps}
use Rattle.desk_calls.specs.Desk.{CanStep as CanStepAlone}
use Rattle.hall_step.specs.Sets.{Sets, Own, set_of, put_set, point_in, Whole}

pub record CanStep (c : ℕ) (H : Sets) (netweights : List (List ℕ)) (N : Numbers) (m k room : ℕ) (call : Request) (course : Course) : Type 0 where
  pub whole : Whole H netweights
  pub known : c < 4
  pub can : CanStepAlone N room course.at call (point_in (set_of c H) (get_or netweights c []) m k course)

-- the set of c takes the call line's step, and is put in its place
pub record Stepped (c : ℕ) (H H' : Sets) (netweights : List (List ℕ)) (N : Numbers) (m k : ℕ) (call : Request) (course course' : Course) (out out' : List ℕ) : Type 0 where
  pub after : Own
  pub put : H' ≡ put_set c after H
  pub steps : Steps N call (point_in (set_of c H) (get_or netweights c []) m k course) (point_in after (get_or netweights c []) m k course') out out' course.at course'.at
