use Rattle.std.proofs.Common.{arith, ap, ◌∙◌, Bool, true, false, cond, ◌-◌, ◌≡◌, refl, ℕ, ◌≤◌, ◌+◌, ℤ, pos}
use Rattle.std.proofs.lemmas.List.{length-replicate}
use Rattle.index.specs.Indexed.{kept-none, kept_then}
use Rattle.polish.specs.Polished.{passing-none, pass-asks, passing-more, passing-at, polishes-all}
use Rattle.polish.proofs.polishing.polish.Goals as goal

-- a pass that made a move has made one more, and leaves one less; one that made none leaves none
more : (moves : ℕ) {some : Bool} → some ≡ true → cond some (moves + 1) moves ≡ moves + 1
more moves e = ap (λ (b : Bool). cond b (moves + 1) moves) e

less : (left : ℕ) {some : Bool} → some ≡ true → cond some (left - 1) 0 ≡ left - 1
less left e = ap (λ (b : Bool). cond b (left - 1) 0) e

none : (left : ℕ) {some : Bool} → some ≡ false → cond some (left - 1) 0 ≤ 0
none left e = omega (arith, ap (λ (b : Bool). cond b (left - 1) 0) e)

pub mark_board-requires : goal.mark_board-requires
mark_board-requires c =
    let follows = c.requires.polish_ok.sound.follows in
    (c.requires.polish_ok.fixed.len, follows.room.few-vertices, follows.world.lists.blocks-fit)

pub survey-requires : goal.survey-requires
survey-requires c =
    let frame = c.requires.polish_ok.sound.follows.world.frame in
    (length-replicate {A = ℤ} 1040 (pos 0), frame.few-vertices, frame.few, frame.gains-fit)

pub passes-init : goal.passes-init
passes-init c =
    (omega arith, λ aboves loaded. passing-at (omega arith) (passing-none _ _ _), c.survey.ensures, kept-none c.args.index.now)

pub pass-requires : goal.pass-requires
pass-requires c =
    let l = c.passes in record { pass_ok = (_, pass-asks c.requires.polish_ok c.mark_board.ensures l.invariant.1 (omega (arith, c.passes-test.true)) (omega (arith, l.invariant.0, c.ranges.total))); peaked = l.invariant.2; n_in_bounds = omega (arith, c.requires.n_in_bounds, l.invariant.3.len) }

pub passes-smaller : goal.passes-smaller
passes-smaller c =
    omega (arith, c.passes-test.true, c.pass.ensures.made, more c.passes.p.moves c.if-pass.true)

pub passes-preserved : goal.passes-preserved
passes-preserved c =
    let l = c.passes in
    let passed = c.pass.ensures in
    let one = more l.p.moves c.if-pass.true in (
      omega (arith, c.passes-test.true, passed.made, one),
      λ aboves loaded. passing-at (less (c.args.total - l.p.moves) c.if-pass.true ∙ omega (arith, passed.made, one))
          (passing-more refl refl refl refl refl (l.invariant.1 aboves loaded) (passed.by_index aboves loaded _ (omega (arith, c.passes-test.true)))),
      passed.peaked_2,
      kept_then l.invariant.3 passed.kept,
    )

pub returns-else-pass : goal.returns-else-pass
returns-else-pass c =
    let l = c.passes in
    let passed = c.pass.ensures in record {
      by_index = λ aboves loaded. polishes-all c.mark_board.ensures
          (passing-more refl refl refl refl refl (l.invariant.1 aboves loaded) (passed.by_index aboves loaded _ (omega (arith, c.passes-test.true)))) (none (c.args.total - l.p.moves) c.if-pass.false);
      kept = kept_then l.invariant.3 passed.kept;
    }

pub returns-after-passes : goal.returns-after-passes
returns-after-passes c =
    let l = c.passes in record { by_index = λ aboves loaded. polishes-all c.mark_board.ensures (l.invariant.1 aboves loaded) (omega (arith, c.passes-test.false)); kept = l.invariant.3 }
