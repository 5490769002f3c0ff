-- `raise_row`: two peaks are raised to the gains of one vertex.
use Rattle.std.proofs.Common.{◌≡◌, sym, subst, false, ◌+◌, ◌*◌, get_or, ℤ, pos}
use Rattle.std.specs.Int.Signed.{lt_z}
use Rattle.laws.specs.Integer.{read32}
use Rattle.best_move.specs.Peak.{both-raised}
use Rattle.best_move.proofs.peaks.raise_row.Goals as goal

pub returns : goal.returns
returns c =
    let a = c.args in
    let both = both-raised a.gains.now a.x c.raise.ensures c.raise-2.ensures in
    let peak = c.row_peak-peak in (
      both.0,
      λ b l.
          let own = subst (λ (z : ℤ). lt_z z (get_or a.gains.now (16 * a.x + b) (pos 0)) ≡ false) {x = peak.result} (sym (read32 peak.result peak.type_inv)) (peak.ensures.above b l) in
          both.1 b own own,
    )
