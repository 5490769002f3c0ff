-- `hall_rows::put_desks` meets its contract. The loop's invariant: the sheets of the catalogues from place c on are still to be written.
use Rattle.std.proofs.Common.{◌+◌, ◌≤◌, ◌≡◌, List, length, drop}
use Rattle.model.specs.Sale.{Sale}
use Rattle.model.specs.Sheets.{hall_sheets}
use Rattle.fields.specs.Wrote.{Remains}
use Rattle.hall_rows.specs.Desks.{HallEnded}
use Rattle.hall_rows.proofs.put_desks.Given as goal

abbrev pub invariant-loop-c : goal.invariant-loop-c
invariant-loop-c l =
    (l.c ≤ l.count) × (length l.out ≡ length l.initial.out)
    × ((ds : List Sale) → length ds ≡ l.count → HallEnded ds l.blocks l.aboves l.loadedpins l.firsts l.loadedsizes l.visited → length (hall_sheets 1 ds) ≤ length l.initial.out
    → Remains l.initial.out 0 (hall_sheets 1 ds) l.out l.p (hall_sheets (l.c + 1) (drop l.c ds)))
