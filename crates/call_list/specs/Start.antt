-- Where a list stands before its first call: nothing on the stack, on the record or among the free numbers. Rests on fixed's Starting. Assumes nothing.
use Rattle.std.specs.Prelude.{ℕ, ◌≡◌, List, length}
use Rattle.model.specs.Lent.{two}
use Rattle.fixed.specs.Starting.{FixedMarked}
use Rattle.edit_calls.specs.Start.{Empty}
use Rattle.call_list.specs.declared.course.Course.{Course}

pub record Starts (fixed : List ℕ) (n marks total : ℕ) (c : Course) : Type 0 where
  pub no_joins : Empty (two c.stack.into c.stack.gone c.stack.len)
  pub no-moves : Empty (two c.journal.vertices c.journal.blocks c.journal.len)
  pub none_free : c.free.len ≡ 0
  pub free-whole : length c.free.numbers ≡ 512
  pub marked : FixedMarked fixed n c.fixedmarks
  pub n-is : c.n ≡ n
  pub marks-are : c.marks ≡ marks
  pub total-is : c.total ≡ total
  pub at-start : c.at ≡ 0
