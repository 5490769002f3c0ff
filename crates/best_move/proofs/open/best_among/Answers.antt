use Rattle.std.proofs.Common.{arith, ◌∙◌, ◌+◌, ◌*◌}
use Rattle.index.specs.Indexed.{kept_then, kept-wide}
use Rattle.laws.specs.Integer.{read32}
use Rattle.best_move.specs.OpenLaw.{read64}
use Rattle.best_move.specs.RisingLaw.{part-bit, among, searched-more, searched-past, searched-ends}
use Rattle.best_move.proofs.open.best_among.Goals as goal

pub best_with-best-requires : goal.best_with-best-requires
best_with-best-requires c =
    let ok = c.requires.search_ok.0 in
    let j = c.in-Some.j in
    let p = c.in-Some.ensures in
    let candidate = part-bit c.args.candidates.now c.args.c j (omega (arith, c.requires.search_ok.1, p.0)) ∙ p.1.found p.0 in
    record {
      row = record { i-to = omega (arith, ok.n-to, p.0); k-to = ok.k-to; in-gains = omega (arith, ok.in-gains, p.0) };
      in-index = omega (arith, c.requires.index_ok.in-index, c.loop-j.invariant.2.len, p.0);
      in_blocks = omega (arith, ok.in_blocks, p.0);
      in-weights = omega (arith, ok.in-weights, p.0);
      own = c.requires.index_ok.on-board (64 * c.args.c + j) (omega (arith, p.0)) candidate;
    }

pub loop-j-preserved : goal.loop-j-preserved
loop-j-preserved c =
    let l = c.loop-j in
    let a = c.args in
    let p = c.in-Some.ensures in
    let better = c.least_better in
    let found = among a.candidates.now a.blocks.now a.weights.now a.loads.now a.ceilings.now a.rooms.now a.gains.now a.c a.size a.k c.requires.search_ok.1 c.requires.rooms _ l.best l.from c.in-Some.j
    (read64 l.best.top c.struct_told-1.given.1.0.1) (read32 better.result better.type_inv) better.ensures l.invariant.0 l.invariant.1 p.1 in (
      omega (arith, p.0),
      searched-more a.candidates.now a.blocks.now a.weights.now a.loads.now a.ceilings.now a.rooms.now a.gains.now a.c a.size a.k _ l.best _ c.in-Some.j p.0 found c.best_with-best.ensures.leads,
      kept_then l.invariant.2 (kept-wide (omega (arith, p.0)) c.best_with-best.ensures.kept),
    )

pub returns-clause-leads : goal.returns-clause-leads
returns-clause-leads c =
    let l = c.loop-j in
    let a = c.args in
    let better = c.least_better in
    let found = among a.candidates.now a.blocks.now a.weights.now a.loads.now a.ceilings.now a.rooms.now a.gains.now a.c a.size a.k c.requires.search_ok.1 c.requires.rooms _ l.best l.from 64
    (read64 l.best.top c.struct_told-1.given.1.0.1) (read32 better.result better.type_inv) better.ensures l.invariant.0 l.invariant.1 c.in_default.ensures in
    searched-ends a.candidates.now a.blocks.now a.weights.now a.loads.now a.ceilings.now a.rooms.now a.gains.now a.c a.size a.k _ l.best 65 (omega (arith, c.requires.search_ok.1))
    (searched-past a.candidates.now a.blocks.now a.weights.now a.loads.now a.ceilings.now a.rooms.now a.gains.now a.c a.size a.k _ l.best 64 c.requires.search_ok.1 found)
