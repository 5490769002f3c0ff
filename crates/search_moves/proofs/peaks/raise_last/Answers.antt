use Rattle.std.proofs.Common.{arith, ◌≡◌, ap, ◌∙◌, ℕ, ◌≤◌, ◌-◌}
use Rattle.search_moves.specs.Lifting.{higher-none, higher-then, last_none, last_more}
use Rattle.search_moves.proofs.peaks.raise_last.Goals as goal

pub loop-j-init : goal.loop-j-init
loop-j-init c =
    let a = c.args in
    (higher-none a.peaks.now, last_none a.gains.now a.presentpins.now a.first a.peaks.now a.blocks.now a.s a.k)

pub overflow_add-first : goal.overflow_add-first
overflow_add-first c =
    omega (arith, c.requires.2.fit)

pub bounds-presentpins-first : goal.bounds-presentpins-first
bounds-presentpins-first c =
    omega (arith, c.requires.2.fit)

pub overflow_sub-x : goal.overflow_sub-x
overflow_sub-x c =
    omega (arith, c.from-x.ensures, c.requires.2.vertices c.loop-j.j (omega arith))

pub offset_bounds-blocks-x : goal.offset_bounds-blocks-x
offset_bounds-blocks-x c =
    omega (arith, c.from-x.ensures, c.requires.2.vertices c.loop-j.j (omega arith))

pub bounds-blocks-x : goal.bounds-blocks-x
bounds-blocks-x c =
    let ok = c.requires.2 in
    omega (arith, c.from-x.ensures, ok.vertices c.loop-j.j (omega arith), ok.in_blocks c.loop-j.j (omega arith))

pub raise_in_block-requires : goal.raise_in_block-requires
raise_in_block-requires c =
    let start = c.requires in
    let j = c.loop-j.j in
    let v = start.2.vertices j (omega arith) in (
      c.loop-j.invariant.0.len ∙ start.0,
      record {
        i-to = omega (arith, c.from-x.ensures, v);
        k-to = start.1;
        in-gains = omega (arith, c.from-x.ensures, v, start.2.in-gains j (omega arith));
      },
    )

pub loop-j-preserved : goal.loop-j-preserved
loop-j-preserved c =
    let a = c.args in
    let l = c.loop-j in
    let r = c.raise_in_block.ensures in (higher-then l.invariant.0 r.0, last_more a.gains.now a.presentpins.now a.first a.blocks.now l.j a.s a.k (c.from-x.result - 1) (ap (λ (z : ℕ). z - 1) c.from-x.ensures) r.0 l.invariant.1 r.1)

pub returns : goal.returns
returns c =
    let e : c.loop-j.j ≡ c.args.size = omega arith in
    (c.loop-j.invariant.0, rw e at c.loop-j.invariant.1)
