use Rattle.std.proofs.Common.{refl}
use Rattle.columns.specs.Entry.{long-is, too_short, served}
use Rattle.columns.proofs.serve.Goals as goal

pub returns-then-not-is_long : goal.returns-then-not-is_long
returns-then-not-is_long c = rw c.number.ensures (too_short _ _ _ (c.is_long.ensures _ refl) c.if-not-is_long.true)

pub work_file-requires : goal.work_file-requires
work_file-requires c =
    long-is _ _ _ _ _ _ _ c.requires (c.is_long.ensures _ refl) c.if-not-is_long.false

pub returns : goal.returns
returns c =
    served _ _ _ (c.is_long.ensures _ refl) _ c.if-not-is_long.false c.work_file.ensures
