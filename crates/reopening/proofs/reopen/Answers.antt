-- `reopen` meets its contract: a blank bitset, two copies, the pins of each net in order, and what `open` makes of them.
use Rattle.std.proofs.Common.{arith, ◌∙◌}
use Rattle.reopening.specs.Reopening.{in_order, copies-ok, sort-ok, open-ok, reopened}
use Rattle.reopening.proofs.reopen.Goals as goal

pub copy-requires : goal.copy-requires
copy-requires c =
    omega (arith, copies-ok c.requires)

pub sort_nets-requires : goal.sort_nets-requires
sort_nets-requires c =
    let s = sort-ok c.requires c.copy.ensures in record { m_in_bounds = s.0; m_in_bounds_2 = s.1.0; sortable_nets = s.1.1 }

pub copy-requires-2 : goal.copy-requires-2
copy-requires-2 c =
    omega (arith, copies-ok c.requires)

pub open-requires : goal.open-requires
open-requires c =
    open-ok c.requires c.blank.ensures (in_order c.copy.ensures c.sort_nets.ensures) c.copy-2.ensures

pub shape_of-bits : goal.shape_of-bits
shape_of-bits c =
    c.«open».ensures.prepared.bits-len ∙ c.blank.ensures.len

pub shape_of-presentpins : goal.shape_of-presentpins
shape_of-presentpins c =
    c.sort_nets.ensures.len ∙ c.copy.ensures.len

pub shape_of-presentsizes : goal.shape_of-presentsizes
shape_of-presentsizes c =
    c.copy-2.ensures.len

pub returns : goal.returns
returns c =
    reopened c.blank.ensures (in_order c.copy.ensures c.sort_nets.ensures) c.copy-2.ensures c.«open».ensures
