-- `hall_calls::run_hall` meets its contract. The loop's invariant: the first i led call lines are done, and no table has changed its length.
use Rattle.std.proofs.Common.{◌-◌, ◌≤◌, ◌≡◌, length}
use Rattle.hall_step.specs.Sets.{sets}
use Rattle.hall_calls.specs.Course.{Ran}
use Rattle.hall_calls.proofs.run_hall.Given as goal

abbrev pub invariant-loop-i : goal.invariant-loop-i
invariant-loop-i l =
    Ran (sets l.initial.counts l.initial.visited l.initial.gains l.initial.index l.initial.presentpins l.initial.presentsizes l.initial.bits l.initial.blocks l.initial.weights l.initial.aboves l.initial.fixed l.initial.loads l.initial.loadedpins l.initial.firsts l.initial.loadedsizes) (sets l.counts l.visited l.gains l.index l.presentpins l.presentsizes l.bits l.blocks l.weights l.aboves l.fixed l.loads l.loadedpins l.firsts l.loadedsizes) l.netweights l.limit l.count l.ks l.terms l.initial.courses l.courses l.calls l.operands l.i l.initial.output l.output l.end
    × (length l.output ≡ length l.initial.output) × (length l.counts ≡ length l.initial.counts) × (length l.visited ≡ length l.initial.visited) × (length l.gains ≡ length l.initial.gains) × (length l.index ≡ length l.initial.index) × (length l.presentpins ≡ length l.initial.presentpins) × (length l.presentsizes ≡ length l.initial.presentsizes) × (length l.bits ≡ length l.initial.bits) × (length l.blocks ≡ length l.initial.blocks) × (length l.weights ≡ length l.initial.weights) × (length l.aboves ≡ length l.initial.aboves) × (length l.fixed ≡ length l.initial.fixed) × (length l.loads ≡ length l.initial.loads) × (length l.loadedpins ≡ length l.initial.loadedpins) × (length l.firsts ≡ length l.initial.firsts) × (length l.loadedsizes ≡ length l.initial.loadedsizes) × (length l.courses ≡ 4) × (l.i ≤ l.lines)
