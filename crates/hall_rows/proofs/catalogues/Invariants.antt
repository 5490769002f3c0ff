-- `hall_rows::catalogues` meets its contract. The loop's invariant: the first c sets are a catalogue's.
use Rattle.std.proofs.Common.{ℕ, ◌≤◌, length}
use Rattle.hall_rows.specs.Desks.{Catalogues}
use Rattle.hall_rows.proofs.catalogues.Given as goal

abbrev pub invariant-loop-c : goal.invariant-loop-c
invariant-loop-c l = (l.c ≤ length l.aboves) × ((count : ℕ) → Catalogues count l.aboves → l.c ≤ count)
