use Rattle.std.proofs.Common.{ℕ, ◌+◌, ◌-◌, ap, ◌*◌, ◌≤◌, arith, ◌≡◌, refl}
use Rattle.std.proofs.lemmas.List.{length-replicate}
use Rattle.index.specs.Indexed.{kept-none, kept_then}
use Rattle.incidence.specs.On.{on-blank}
use Rattle.search_moves.specs.Tabled.{pins-ok}
use Rattle.cycle.specs.Refine.{stack-to, top-asks, part-asks, parts-few, refining-none, refining-more, refining-done}
use Rattle.cycle.proofs.refining.refine.Goals as goal

pub fill_rows-requires : goal.fill_rows-requires
fill_rows-requires c =
    let s = c.requires.refine_ok.sound in
    let room = s.follows.room in
    (length-replicate {A = ℕ} 16384 0, λ e x _. on-blank 16384 e x, room.few-nets, room.firsts-fit, room.sizes-fit, pins-ok s)

pub loop-i-init : goal.loop-i-init
loop-i-init c =
    let p = c.requires.refine_ok in (omega (arith, stack-to p), omega (arith, stack-to p), refining-none _ _ _ _ _ _, kept-none c.args.index.now, c.fill_rows.ensures)

pub offset_bounds-stack-i : goal.offset_bounds-stack-i
offset_bounds-stack-i c =
    let p = c.requires.refine_ok in omega (arith, stack-to p, p.into-fit, p.gone-fit, c.loop-i.auto.i, c.loop-i-test)

pub bounds-stack-i : goal.bounds-stack-i
bounds-stack-i c =
    let p = c.requires.refine_ok in omega (arith, stack-to p, p.into-fit, p.gone-fit, c.loop-i.auto.i, c.loop-i-test)

pub overflow_sub-u : goal.overflow_sub-u
overflow_sub-u c =
    omega (arith, (top-asks c.loop-i.i c.requires.refine_ok c.loop-i.invariant.2 (omega (arith, c.loop-i-test))).0)

pub offset_bounds-stack-i-in-loop-i : goal.offset_bounds-stack-i-in-loop-i
offset_bounds-stack-i-in-loop-i c =
    let p = c.requires.refine_ok in omega (arith, stack-to p, p.into-fit, p.gone-fit, c.loop-i.auto.i, c.loop-i-test)

pub bounds-stack-i-in-loop-i : goal.bounds-stack-i-in-loop-i
bounds-stack-i-in-loop-i c =
    let p = c.requires.refine_ok in omega (arith, stack-to p, p.into-fit, p.gone-fit, c.loop-i.auto.i, c.loop-i-test)

pub overflow_sub-v : goal.overflow_sub-v
overflow_sub-v c =
    omega (arith, (top-asks c.loop-i.i c.requires.refine_ok c.loop-i.invariant.2 (omega (arith, c.loop-i-test))).1)

pub refine_once-w-requires : goal.refine_once-w-requires
refine_once-w-requires c =
    record { part_ok = part-asks c.loop-i.i c.requires.refine_ok c.loop-i.invariant.2 (omega (arith, c.loop-i-test)) (ap (λ (x : ℕ). x - 1) c.from-u.ensures) (ap (λ (x : ℕ). x - 1) c.from-v.ensures); n_in_bounds = omega (arith, c.requires.n_in_bounds, c.loop-i.invariant.3.len); rows_are = c.loop-i.invariant.4 }

pub add_walk-f-requires : goal.add_walk-f-requires
add_walk-f-requires c =
    let q = parts-few (part-asks c.loop-i.i c.requires.refine_ok c.loop-i.invariant.2 (omega (arith, c.loop-i-test)) (ap (λ (x : ℕ). x - 1) c.from-u.ensures) (ap (λ (x : ℕ). x - 1) c.from-v.ensures)) c.refine_once-w.ensures.parts in (q.0, omega (arith, q), omega (arith, c.loop-i.invariant.0), omega (arith, c.loop-i.invariant.1))

pub loop-i-preserved : goal.loop-i-preserved
loop-i-preserved c =
    let q = parts-few (part-asks c.loop-i.i c.requires.refine_ok c.loop-i.invariant.2 (omega (arith, c.loop-i-test)) (ap (λ (x : ℕ). x - 1) c.from-u.ensures) (ap (λ (x : ℕ). x - 1) c.from-v.ensures)) c.refine_once-w.ensures.parts in let e = c.add_walk-f.ensures in (omega (arith, c.loop-i.invariant.0, c.loop-i-test, e.0, q.0), omega (arith, c.loop-i.invariant.1, c.loop-i-test, e.1, q), rw e.2 (refining-more c.loop-i.i refl refl refl refl refl c.loop-i.invariant.2 (omega (arith, c.loop-i-test)) (ap (λ (x : ℕ). x - 1) c.from-u.ensures) (ap (λ (x : ℕ). x - 1) c.from-v.ensures) c.refine_once-w.ensures.parts e.0 e.1), kept_then c.loop-i.invariant.3 c.refine_once-w.ensures.kept, c.refine_once-w.ensures.rows_are_2)

pub returns : goal.returns
returns c = record { refines = refining-done c.loop-i.i c.loop-i.invariant.2 (omega (arith, c.loop-i-test)); kept = c.loop-i.invariant.3 }
