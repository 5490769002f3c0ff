-- `records::gather` meets its contract. The invariant: there are 1,024 records, and each below i is made of the four tables. Assumes nothing.
use Rattle.std.proofs.Common.{◌≡◌, ◌∙◌, List, ℕ, ◌-◌, ◌<◌, ◌≤◌, length, get_or}
use Rattle.records.specs.declared.Lot.{Lot}
use Rattle.records.specs.Fields.{blank}
use Rattle.records.proofs.gather.Given as goal

abbrev pub Made : List ℕ → List ℕ → List ℕ → List ℕ → List Lot → ℕ → Type 0
Made weights blocks aboves fixed lots k = get_or lots k blank ≡ record { bales = get_or weights k 0; session = get_or blocks k 0; above = get_or aboves k 0; kept = get_or fixed k 0 }

abbrev pub invariant-loop-i : goal.invariant-loop-i
invariant-loop-i l = (l.i ≤ 1024) × (length l.lots ≡ 1024) × ((k : ℕ) → k < l.i → Made l.weights l.blocks l.aboves l.fixed l.lots k)
