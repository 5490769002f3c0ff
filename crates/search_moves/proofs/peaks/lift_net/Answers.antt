use Rattle.std.proofs.Common.{◌∙◌}
use Rattle.search_moves.specs.Lifting.{higher-then, under-higher, pins-small}
use Rattle.search_moves.proofs.peaks.lift_net.Goals as goal

pub lift_first-requires : goal.lift_first-requires
lift_first-requires c =
    let start = c.requires in
    (c.lift_last.ensures.0.len ∙ start.0, start.2, pins-small start.4)

pub returns : goal.returns
returns c =
    let l = c.lift_last.ensures in
    let f = c.lift_first.ensures in (
      higher-then l.0 f.0,
      record {
        last = λ q i li s b lb. under-higher c.args.gains.now _ b f.0 (l.1 q i li s b lb);
        first = f.1;
      },
    )
