use Rattle.std.proofs.Common.{◌-◌, ◌≤◌, ◌≡◌, length}
use Rattle.model.specs.Catalogue.{Limits, Hypergraph}
use Rattle.model.specs.Memory.{Tables}
use Rattle.call_list.specs.Point.{point_of}
use Rattle.call_list.specs.Course.{Begins, Done}
use Rattle.call_list.proofs.run_calls.Given as goal

abbrev pub invariant-loop-i : goal.invariant-loop-i
invariant-loop-i l =
    ((limits : Limits) (h : Hypergraph) (old : Tables) → Begins limits h old l.frame.average l.frame.lots l.ceilings l.calls l.operands l.count (length l.initial.output)
    (point_of l.initial.counts l.initial.visited l.initial.gains l.initial.index l.initial.presentpins l.initial.presentsizes l.initial.bits l.initial.blocks l.initial.weights l.initial.aboves l.initial.fixed l.initial.loads l.initial.loadedpins l.initial.firsts l.initial.loadedsizes l.netweights l.frame.m l.frame.k l.initial.course)
    → Done limits h old l.calls l.operands l.i
    (point_of l.counts l.visited l.gains l.index l.presentpins l.presentsizes l.bits l.blocks l.weights l.aboves l.fixed l.loads l.loadedpins l.firsts l.loadedsizes l.netweights l.frame.m l.frame.k l.course)
    l.initial.output l.output l.course.at)
    × (length l.output ≡ length l.initial.output) × (length l.counts ≡ length l.initial.counts) × (length l.visited ≡ length l.initial.visited) × (length l.gains ≡ length l.initial.gains) × (length l.index ≡ length l.initial.index) × (length l.presentpins ≡ length l.initial.presentpins) × (length l.presentsizes ≡ length l.initial.presentsizes) × (length l.bits ≡ length l.initial.bits) × (length l.blocks ≡ length l.initial.blocks) × (length l.weights ≡ length l.initial.weights) × (length l.aboves ≡ length l.initial.aboves) × (length l.fixed ≡ length l.initial.fixed) × (length l.loadedpins ≡ length l.initial.loadedpins) × (length l.firsts ≡ length l.initial.firsts) × (length l.loadedsizes ≡ length l.initial.loadedsizes) × (l.i ≤ l.count)
