use Rattle.std.proofs.Common.{arith}
use Rattle.search_moves.specs.Tabled.{search-ok, index_ok}
use Rattle.walk.specs.Turning.{chosen_on, take-asks, turn-none, turn-move}
use Rattle.walk.proofs.walks.advance.Goals as goal

pub next_move-requires : goal.next_move-requires
next_move-requires c =
    let start = c.requires in
    let ok = start.turn_ok in record { kept_le_tried = (ok.at.kept-to, omega (arith, ok.tried-to, ok.turn-to, ok.at.sound.follows.room.few-vertices), search-ok ok.at.sound c.args.marks.now (omega (arith, ok.at.marks-fit))); peaked = start.peaked; index_ok = index_ok ok.at.sound _ c.args.marks.now start.n_in_bounds (chosen_on ok.at) }

pub make_move-requires : goal.make_move-requires
make_move-requires c =
    let start = c.requires in record { take_ok = take-asks c.args.ceilings.now start.turn_ok _ _ c.next_move.ensures.chosen c.in-Some.is; peaked = start.peaked; rows_past = start.rows_past }

pub returns-in-None : goal.returns-in-None
returns-in-None c =
    let start = c.requires in
    let moved = c.next_move.ensures in record { by_index = λ aboves loaded. turn-none _ _ _ _ start.turn_ok.turn-to start.turn_ok.tried-to moved.chosen c.in-None.is; peaked_2 = start.peaked; kept = moved.kept }

pub returns-in-Some : goal.returns-in-Some
returns-in-Some c =
    let ok = c.requires.turn_ok in
    let moved = c.make_move.ensures in record { by_index = λ aboves loaded. turn-move _ _ _ _ _ ok.turn-to ok.tried-to c.next_move.ensures.chosen c.in-Some.is (moved.by_index aboves loaded); peaked_2 = moved.peaked_2; kept = c.next_move.ensures.kept }
