use Rattle.std.proofs.Common.{refl}
use Rattle.sale_list.specs.Lists.{idle}
use Rattle.engine.proofs.listing.refused_list.Goals as goal

pub returns : goal.returns
returns c =
    let stack = c.new-none.ensures in
    let journal = c.new-unmoved.ensures in
    (c.number.ensures, refl, idle stack.2 stack.3 stack.4 journal.2 journal.3 journal.4 refl)
