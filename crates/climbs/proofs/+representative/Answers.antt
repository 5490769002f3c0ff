-- `climbs::representative` meets its contract: the number of steps falls.
use Rattle.std.proofs.Common.{ℕ, ◌-◌, sym, ap, ◌∙◌, arith}
use Rattle.model.specs.Measure.{climb}
use Rattle.climbs.proofs.Climb.{climb-none, climb-top, climb-more}
use Rattle.climbs.proofs.+representative.Goals as goal

pub returns-then-steps-eq0 : goal.returns-then-steps-eq0
returns-then-steps-eq0 t c = λ cs n h u. climb-none c.args.steps cs c.args.v c.if-steps-eq0.true

pub overflow_sub-v : goal.overflow_sub-v
overflow_sub-v t c = omega (arith, c.requires.low)

pub offset_bounds-aboves-v : goal.offset_bounds-aboves-v
offset_bounds-aboves-v t c = let k = c.requires in omega (arith, k.high, k.hangs.fits)

pub bounds-aboves-v : goal.bounds-aboves-v
bounds-aboves-v t c = let k = c.requires in omega (arith, k.low, k.high, k.hangs.fits)

pub returns-then-above-eq0 : goal.returns-then-above-eq0
returns-then-above-eq0 t c = λ cs n h u. climb-top h c.args.v c.requires.low u c.args.steps (sym c.from-above.ensures ∙ c.if-above-eq0.true)

pub representative-requires : goal.representative-requires
representative-requires t c =
    let k = c.requires in
    let v : ℕ = c.args.v in (
      omega arith,
      record {
        stack = k.stack;
        n = k.n;
        hangs = k.hangs;
        low = omega (arith, c.if-above-eq0.false);
        high = omega (arith, c.from-above.ensures, k.hangs.known (v - 1) (omega (arith, k.low, k.high)));
      },
    )

pub returns : goal.returns
returns t c = λ cs n h u.
    let k = c.requires in
    let v : ℕ = c.args.v in
    let e = c.from-above.ensures in
    climb-more h v k.low u c.args.steps c.representative.result (omega (arith, c.if-steps-eq0.false)) (λ q. c.if-above-eq0.false (e ∙ q))
    (c.representative.ensures cs n h (omega (arith, e, h.known (v - 1) (omega (arith, k.low)))) ∙ ap (climb (c.args.steps - 1) cs) e)
