use Rattle.operations.specs.Join.{u-below, v_below, clears-above-ok, uncontract-ok, split_done}
use Rattle.operations.proofs.joins.split.Goals as goal

pub clear_above-requires : goal.clear_above-requires
clear_above-requires c =
    clears-above-ok c.args.u c.args.v c.requires.splits.sound

pub uncontract-requires : goal.uncontract-requires
uncontract-requires c =
    uncontract-ok c.args.u c.args.v c.requires.splits.sound

pub returns : goal.returns
returns c =
    λ loads. let s = c.requires.splits.sound in split_done _ (u-below c.args.u c.args.v s) (v_below c.args.u c.args.v s) c.clear_above.ensures.0 c.clear_above.ensures.1 c.uncontract.ensures
