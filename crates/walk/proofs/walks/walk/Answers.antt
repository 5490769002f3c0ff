use Rattle.std.proofs.Common.{arith, ap, Bool, true, cond, ◌≡◌, refl, ◌∙◌, ℕ, ◌≤◌, ◌-◌, ℤ, pos}
use Rattle.std.proofs.lemmas.List.{length-replicate}
use Rattle.index.specs.Indexed.{kept-none, kept_then}
use Rattle.walk.specs.Whole.{started, has_first, going-none, turn-asks, going_more, going-at, end-asks, walks-all}
use Rattle.walk.proofs.walks.walk.Goals as goal
use Rattle.walk.proofs.walks.walk.Goals.{then-turns-test+else-advance, else-turns-test}

-- a turn that made a move is one more
made : (tried n : ℕ) {some : Bool} → some ≡ true → cond some tried n ≡ tried
made tried n e = ap (λ (b : Bool). cond b tried n) e

whole : (n : ℕ) → n ≤ n
whole n = omega arith

pub mark_vertex-requires : goal.mark_vertex-requires
mark_vertex-requires c =
    let ok = c.requires.walk_ok in
    (ok.fixed.len, omega (arith, ok.u-in, ok.sound.follows.room.few-vertices))

pub mark_vertex-requires-2 : goal.mark_vertex-requires-2
mark_vertex-requires-2 c =
    let ok = c.requires.walk_ok in
    (c.mark_vertex.ensures.0.len ∙ ok.fixed.len, omega (arith, ok.v-in, ok.sound.follows.room.few-vertices))

pub survey-requires : goal.survey-requires
survey-requires c =
    let frame = c.requires.walk_ok.sound.follows.world.frame in
    (length-replicate {A = ℤ} 1040 (pos 0), frame.few-vertices, frame.few, frame.gains-fit)

pub heaviest-requires : goal.heaviest-requires
heaviest-requires c =
    let ok = c.requires.walk_ok in
    (ok.sound.loads-fit, ok.sound.follows.world.frame.few)

pub turns-init : goal.turns-init
turns-init c =
    let a = c.args in
    let ok = c.requires.walk_ok in
    let one = c.mark_vertex.ensures in
    let two = c.mark_vertex-2.ensures in
    let fit = length-replicate {A = ℕ} 1024 0 in (
      omega arith,
      has_first ok (started a.u a.v one.0 two.0 one.1 two.1 _ ok.u-in ok.u-on ok.v-in ok.v-on fit fit refl c.heaviest.ensures),
      λ aboves loaded. going-none _ _ _,
      c.survey.ensures,
      kept-none a.index.now,
    )

pub advance-requires : goal.advance-requires
advance-requires c =
    let l = c.turns in record { turn_ok = turn-asks l.invariant.1 l.invariant.2 c.turns-test.true (omega arith); peaked = l.invariant.3; n_in_bounds = omega (arith, c.requires.n_in_bounds, l.invariant.4.len); rows_past = c.requires.rows_past }

pub turns-smaller : goal.turns-smaller
turns-smaller c =
    let ok = c.requires.walk_ok in
    let e = c.advance.ensures.by_index ok.aboves ok.loaded in
    omega (arith, e.on, e.to, c.turns-test.true, made c.advance.new.s.tried c.args.n c.if-advance.true)

pub turns-preserved : goal.turns-preserved
turns-preserved c =
    let ok = c.requires.walk_ok in
    let l = c.turns in
    let turned = c.advance.ensures in
    let e = turned.by_index ok.aboves ok.loaded in
    let one = made c.advance.new.s.tried c.args.n c.if-advance.true in (
      omega (arith, e.to, one),
      l.invariant.1,
      λ aboves loaded. going-at one (going_more refl refl refl refl refl (l.invariant.2 aboves loaded) (turned.by_index aboves loaded)),
      turned.peaked_2,
      kept_then l.invariant.4 turned.kept,
    )

pub rewind-t-requires : goal.rewind-t-requires
rewind-t-requires c =
    elim c.turns-test.branch [
      | then-turns-test+else-advance w ↦
          let l = c.turns in
          let e = w.advance.ensures.by_index c.requires.walk_ok.aboves c.requires.walk_ok.loaded in
          rw (w.counts-is, w.visited-is, w.gains-is, w.blocks-is, w.loads-is, w.movers-is, w.origins-is, w.s-is)
          (end-asks l.invariant.1 (λ aboves loaded. going_more refl refl refl refl refl (l.invariant.2 aboves loaded) (w.advance.ensures.by_index aboves loaded)) e.to e.tried-to)
      | else-turns-test w ↦
          let l = c.turns in
          rw (w.counts-is, w.visited-is, w.gains-is, w.blocks-is, w.loads-is, w.movers-is, w.origins-is, w.s-is)
          (end-asks l.invariant.1 l.invariant.2 l.invariant.0 (omega arith))
    ]

pub returns : goal.returns
returns c =
    let a = c.args in
    let ok = c.requires.walk_ok in
    let one = c.mark_vertex.ensures in
    let two = c.mark_vertex-2.ensures in
    let fit = length-replicate {A = ℕ} 1024 0 in
    let l = c.turns in
    elim c.turns-test.branch [
      | then-turns-test+else-advance w ↦
          let e = w.advance.ensures in
          let back = rw (w.counts-is, w.visited-is, w.gains-is, w.blocks-is, w.loads-is, w.movers-is, w.origins-is, w.s-is) at c.rewind-t.ensures in
          let over = ap (λ (b : Bool). cond b w.advance.new.s.tried a.n) w.if-advance.false in
          rw (w.index-is, w.s-is)
          (record {
            by_index = λ aboves loaded. walks-all refl refl refl refl refl (started a.u a.v one.0 two.0 one.1 two.1 _ ok.u-in ok.u-on ok.v-in ok.v-on fit fit refl c.heaviest.ensures)
                (going-at over (going_more refl refl refl refl refl (l.invariant.2 aboves loaded) (e.by_index aboves loaded))) (whole a.n) (back aboves loaded);
            kept = kept_then l.invariant.4 e.kept;
          })
      | else-turns-test w ↦
          let back = rw (w.counts-is, w.visited-is, w.gains-is, w.blocks-is, w.loads-is, w.movers-is, w.origins-is, w.s-is) at c.rewind-t.ensures in
          rw (w.index-is, w.s-is)
          (record {
            by_index = λ aboves loaded. walks-all refl refl refl refl refl (started a.u a.v one.0 two.0 one.1 two.1 _ ok.u-in ok.u-on ok.v-in ok.v-on fit fit refl c.heaviest.ensures) (l.invariant.2 aboves loaded) w.turns-test.false (back aboves loaded);
            kept = l.invariant.4;
          })
    ]
