use Rattle.std.proofs.Common.{arith, refl, ap, ℕ, ◌-◌}
use Rattle.search_moves.specs.Tabled.{search-ok, index_ok}
use Rattle.polish.specs.Polished.{candidate-on, pass-in, pass-goes, pass-none, pass-move}
use Rattle.polish.proofs.polishing.pass.Goals as goal

pub next_rise-requires : goal.next_rise-requires
next_rise-requires c =
    let start = c.requires in
    let at = start.pass_ok.1.at in record { search_ok = search-ok at.sound c.args.marks.now (omega (arith, at.marks-fit)); peaked = start.peaked; index_ok = index_ok at.sound _ c.args.marks.now start.n_in_bounds (candidate-on at) }

pub overflow_sub-x : goal.overflow_sub-x
overflow_sub-x c =
    omega (arith, pass-in c.requires.pass_ok.1 c.args.ceilings.now _ _ c.next_rise.ensures.chosen c.in-Some.is, c.from-x.ensures)

pub shift-p-requires : goal.shift-p-requires
shift-p-requires c =
    let found = c.next_rise.ensures in
    let pair = c.in-Some.is in
    let is = c.from-x in
    let start = c.requires in record { can_go = pass-goes start.pass_ok.1 c.args.ceilings.now _ _ found.chosen pair (is.result - 1) (ap (λ (z : ℕ). z - 1) is.ensures); peaked = start.peaked }

pub overflow_add-p : goal.overflow_add-p
overflow_add-p c =
    omega (arith, c.requires.pass_ok.1.some, c.requires.pass_ok.1.small)

pub returns-in-None : goal.returns-in-None
returns-in-None c =
    let start = c.requires in
    let found = c.next_rise.ensures in record { by_index = λ aboves loaded left some. pass-none _ _ _ _ _ some found.chosen c.in-None.is; peaked_2 = start.peaked; made = refl; kept = found.kept }

pub returns-in-Some : goal.returns-in-Some
returns-in-Some c =
    let start = c.requires in
    let is = c.from-x in
    let found = c.next_rise.ensures in
    let pair = c.in-Some.is in
    let moved = c.shift-p.ensures in record { by_index = λ aboves loaded left some. pass-move _ _ _ _ (is.result - 1) _ _ some refl found.chosen pair (omega (arith, pass-in start.pass_ok.1 c.args.ceilings.now _ _ found.chosen pair, is.ensures)) (moved.by_index aboves loaded); peaked_2 = moved.peaked_2; made = refl; kept = found.kept }
