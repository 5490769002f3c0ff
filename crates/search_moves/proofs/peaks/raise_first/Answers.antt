use Rattle.std.proofs.Common.{arith, ◌≡◌, ap, ◌∙◌, ℕ, ◌≤◌, ◌-◌}
use Rattle.search_moves.specs.Lifting.{higher-none, higher-then, first-none, first_more}
use Rattle.search_moves.proofs.peaks.raise_first.Goals as goal

pub loop-j-init : goal.loop-j-init
loop-j-init c =
    let a = c.args in
    (higher-none a.peaks.now, first-none a.gains.now a.presentpins.now a.first a.peaks.now a.t)

pub overflow_add-first : goal.overflow_add-first
overflow_add-first c =
    omega (arith, c.requires.3.fit)

pub offset_bounds-presentpins-first : goal.offset_bounds-presentpins-first
offset_bounds-presentpins-first c =
    omega (arith, c.requires.3.fit)

pub bounds-presentpins-first : goal.bounds-presentpins-first
bounds-presentpins-first c =
    omega (arith, c.requires.3.fit)

pub overflow_sub-from : goal.overflow_sub-from
overflow_sub-from c =
    omega (arith, c.from.ensures, c.requires.3.vertices c.loop-j.j (omega arith))

pub overflow_sub-t : goal.overflow_sub-t
overflow_sub-t c =
    omega (arith, c.requires.1)

pub raise_entry-requires : goal.raise_entry-requires
raise_entry-requires c =
    let start = c.requires in
    let j = c.loop-j.j in
    let v = start.3.vertices j (omega arith) in (
      omega (arith, c.from.ensures, v),
      omega (arith, start.1, start.2),
      omega (arith, c.from.ensures, v, start.3.in-gains j (omega arith)),
      c.loop-j.invariant.0.len ∙ start.0,
    )

pub loop-j-preserved : goal.loop-j-preserved
loop-j-preserved c =
    let a = c.args in
    let l = c.loop-j in
    let r = c.raise_entry.ensures in (higher-then l.invariant.0 r.0, first_more a.gains.now a.presentpins.now a.first l.j a.t (c.from.result - 1) (ap (λ (z : ℕ). z - 1) c.from.ensures) r.0 l.invariant.1 r.1)

pub returns : goal.returns
returns c =
    let e : c.loop-j.j ≡ c.args.size = omega arith in
    (c.loop-j.invariant.0, rw e at c.loop-j.invariant.1)
