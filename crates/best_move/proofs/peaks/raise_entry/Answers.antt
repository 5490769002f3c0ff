-- `raise_entry`: two peaks are raised to one gain.
use Rattle.std.proofs.Common.{◌≡◌, sym, subst, false, ◌+◌, ◌*◌, get_or, ℤ, pos}
use Rattle.std.specs.Int.Signed.{lt_z}
use Rattle.laws.specs.Integer.{read32}
use Rattle.best_move.specs.Peak.{not_itself, both-raised}
use Rattle.best_move.proofs.peaks.raise_entry.Goals as goal

pub returns : goal.returns
returns c =
    let a = c.args in
    let both = both-raised a.gains.now a.x c.raise.ensures c.raise-2.ensures in
    let gain = c.gain-1 in
    let entry = get_or a.gains.now (16 * a.x + a.b) (pos 0) in
    let own = subst (λ (z : ℤ). lt_z z entry ≡ false) {x = entry} (sym (read32 entry gain.given)) (not_itself entry) in
    (both.0, both.1 a.b own own)
