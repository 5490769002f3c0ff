use Rattle.std.proofs.Common.{arith, refl, ap, ℕ, ◌-◌}
use Rattle.walk.specs.Taking.{take_open, take-goes, take-nets, take-law}
use Rattle.walk.proofs.walks.make_move.Goals as goal

pub overflow_sub-x : goal.overflow_sub-x
overflow_sub-x c =
    omega (arith, c.requires.take_ok.v-from, c.from-x.ensures)

pub overflow_add-made : goal.overflow_add-made
overflow_add-made c =
    let ok = c.requires.take_ok in omega (arith, ok.tried-to, ok.turn-to, ok.at.sound.follows.room.few-vertices)

pub offset_bounds-movers-at : goal.offset_bounds-movers-at
offset_bounds-movers-at c =
    let ok = c.requires.take_ok in omega (arith, ok.tried-to, ok.turn-to, ok.at.sound.follows.room.few-vertices)

pub bounds-movers-at : goal.bounds-movers-at
bounds-movers-at c =
    let ok = c.requires.take_ok in omega (arith, ok.tried-to, ok.turn-to, ok.at.sound.follows.room.few-vertices)

pub bounds-blocks-x : goal.bounds-blocks-x
bounds-blocks-x c =
    let ok = c.requires.take_ok in
    omega (arith, ok.open-pair.u-in, ok.at.sound.follows.world.lists.blocks-fit, c.from-x.ensures)

pub offset_bounds-origins-at : goal.offset_bounds-origins-at
offset_bounds-origins-at c =
    let ok = c.requires.take_ok in omega (arith, ok.tried-to, ok.turn-to, ok.at.sound.follows.room.few-vertices)

pub bounds-origins-at : goal.bounds-origins-at
bounds-origins-at c =
    let ok = c.requires.take_ok in omega (arith, ok.tried-to, ok.turn-to, ok.at.sound.follows.room.few-vertices)

pub shift-total-requires : goal.shift-total-requires
shift-total-requires c =
    let start = c.requires in record { can_go = take-goes start.take_ok (c.from-x.result - 1) (ap (λ (z : ℕ). z - 1) c.from-x.ensures); peaked = start.peaked }

pub spread-requires : goal.spread-requires
spread-requires c =
    let ok = c.requires.take_ok in
    let is = c.from-x in (
      ok.at.marks-fit,
      omega (arith, ok.open-pair.u-in, ok.at.sound.follows.room.few-vertices, is.ensures),
      take-nets ok (is.result - 1) (ap (λ (z : ℕ). z - 1) is.ensures),
      ok.at.covered,
      c.requires.rows_past,
    )

pub heaviest-requires : goal.heaviest-requires
heaviest-requires c =
    let ok = c.requires.take_ok in
    let moved = c.shift-total.ensures in
    (((moved.by_index ok.aboves ok.loaded).sound ok.h ok.cs ok.walk.block ok.at.sound).loads-fit, ok.at.sound.follows.world.frame.few)

pub returns : goal.returns
returns c =
    let ok = c.requires.take_ok in
    let is = c.from-x in
    let moved = c.shift-total.ensures in
    let marked = c.spread.ensures in
    let heavy = c.heaviest.ensures in
    let prefix = c.keep.ensures in record {
      by_index = λ aboves loaded. record {
        is = λ h cs w A. take-law (is.result - 1) A (take_open ok (is.result - 1) (ap (λ (z : ℕ). z - 1) is.ensures))
            (omega (arith, ok.v-from, is.ensures)) (omega (arith, ok.tried-to, ok.turn-to, ok.at.sound.follows.room.few-vertices)) refl
            (moved.by_index aboves loaded) marked.0 marked.1 (record { xs-are = refl; ys-are = refl; len_is = refl }) heavy prefix.kept_value prefix.heaviest_value;
        turn_is = refl;
        tried-is = refl;
        keeps = (moved.by_index aboves loaded).keeps;
      };
      peaked_2 = moved.peaked_2;
    }
