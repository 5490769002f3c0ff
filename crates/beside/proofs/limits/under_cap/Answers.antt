use Rattle.std.proofs.Common.{sym, ◌∙◌, ap, not, true≢false}
use Rattle.beside.specs.Called.{under-no, under-not, under-yes}
use Rattle.beside.proofs.limits.under_cap.Goals.{then-is_known, else-is_known}
use Rattle.beside.proofs.limits.under_cap.Goals as goal

pub returns-then-is_known-2 : goal.returns-then-is_known-2
returns-then-is_known-2 c =
    let a = c.args in
    elim c.if-is_known.branch [
      | then-is_known w ↦ under-yes a.loads.now a.weights.now a.cap a.n a.k a.u a.t c.is_known.ensures (ap not w.if-is_known.true) w.is_known-then-is_known.ensures (ap not (sym w.value-is ∙ c.if-is_known-2.true)) (rw c.from.ensures at c.fits.ensures)
      | else-is_known w ↦ absurd (true≢false (sym c.if-is_known-2.true ∙ w.value-is ∙ w.if-is_known.false))
    ]

pub returns-else-is_known-2 : goal.returns-else-is_known-2
returns-else-is_known-2 c =
    let a = c.args in
    elim c.if-is_known.branch [
      | then-is_known w ↦ c.if-is_known-2.false ∙ under-not a.loads.now a.weights.now a.cap a.n a.k a.u a.t c.is_known.ensures (ap not w.if-is_known.true) w.is_known-then-is_known.ensures (ap not (sym w.value-is ∙ c.if-is_known-2.false))
      | else-is_known w ↦ c.if-is_known-2.false ∙ under-no a.loads.now a.weights.now a.cap a.n a.k a.u a.t c.is_known.ensures (ap not w.if-is_known.false)
    ]
