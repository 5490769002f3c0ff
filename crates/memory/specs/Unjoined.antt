-- With no join standing each buyer's present marks in lent memory are its loaded ones, of loading less withdrawals plus additions. Rests on Held and model's
-- Demand. Assumes nothing.
use Rattle.std.specs.Prelude.{ℕ, zero, suc, ◌+◌, ◌-◌, ◌<◌, ◌≤◌, ◌≡◌, List, [], length, get_or, take, drop}
use Rattle.std.proofs.Common.{zero-add, arith, sym, ap₂, ◌∙◌, get_or-take, get_or-drop}
use Rattle.std.proofs.Math.Path.{ap}
use Rattle.laws.specs.Choice.{one}
use Rattle.laws.specs.Fold.{all-get}
use Rattle.laws.specs.Sum.{sum-ext}
use Rattle.laws.specs.Occurrence.{occ, same, distinct-any, Distinct}
use Rattle.model.specs.Catalogue.{Net, Hypergraph, vertices}
use Rattle.model.specs.Measure.{pin, size}
use Rattle.model.specs.Memory.{no_net, net}
use Rattle.model.specs.Demand.{LoadedSets}
use Rattle.guarantees.specs.Clumps.{Within}
use Rattle.guarantees.specs.Splits.{pin-none}
use Rattle.guarantees.specs.Stretches.{size-fresh}
use Rattle.pins.specs.Stack.{loaded_pin}
use Rattle.levels.specs.Running.{net_at}
use Rattle.operations.specs.Tables.{Tables, Sound}
use Rattle.renewal.specs.Nets.{first_of, Stored, stretch-is}
use Rattle.memory.specs.Unused.{memory_of}
use Rattle.memory.specs.Held.{net-at, all-nets, pins-in, size_in}

module _ {h : Hypergraph} {block : ℕ → ℕ} {T : Tables} (sound : Sound h [] block T) {pins : List ℕ} (stored : Stored h.nets pins T.firsts T.loaded) where
  -- a place of a net's stretch
  pin_at : (e i : ℕ) → e < length h.nets → i < length (net_at h e).pins → get_or pins (get_or T.firsts e 0 + i) 0 ≡ get_or (net_at h e).pins (0 + i) 0
  pin_at e i l u =
      ap (λ (f : ℕ). get_or pins (f + i) 0) (stored.first-is e l)
      ∙ sym (get_or-drop (first_of h.nets e) pins i 0)
      ∙ sym (get_or-take (length (net_at h e).pins) (drop (first_of h.nets e) pins) i 0 u)
      ∙ ap (λ (r : List ℕ). get_or r i 0) (stretch-is stored e l)
      ∙ ap (λ (j : ℕ). get_or (net_at h e).pins j 0) (sym (zero-add i))

  -- the loaded marks, as often as they are marked
  loaded-often : (e v : ℕ) → e < length h.nets → occ pins (get_or T.firsts e 0) (get_or T.loaded e 0) v ≡ one (pin [] (net h (suc e)) v)
  unfolding occ
  loaded-often e v l =
      ap (λ (c : ℕ). occ pins (get_or T.firsts e 0) c v) (stored.size_is e l)
      ∙ sum-ext (length (net_at h e).pins) _ (λ i. same (get_or (net_at h e).pins (0 + i) 0) v) (λ i u. ap (λ (y : ℕ). same y v) (pin_at e i l u))
      ∙ distinct-any (net_at h e).pins v (all-get h.nets _ no_net sound.fit.ranges.loaded.nets-distinct e l)
      ∙ ap one (sym (pin-none (net h (suc e)) v ∙ ap (λ (a : Net). loaded_pin a v) (sym (net-at h e))))

  as_many : (e : ℕ) → e < length h.nets → get_or T.sizes e 0 ≡ get_or T.loaded e 0
  as_many e l =
      size_in sound e l
      ∙ ap (size h []) (sym (net-at h e))
      ∙ size-fresh h (net_at h e) (all-get h.nets (Within (vertices h)) no_net sound.fit.ranges.loaded.nets-in e l) (all-get h.nets (λ n. Distinct n.pins 0 (length n.pins)) no_net sound.fit.ranges.loaded.nets-distinct e l)
      ∙ sym (stored.size_is e l)

  down : (d : ℕ) → suc d - 1 ≡ d
  down d = omega arith

  pub loaded-sets : (fixed index : List ℕ) → LoadedSets h (memory_of T fixed pins index)
  loaded-sets fixed index = record { as_many = many; as-often = often }
    where
      many : (e : ℕ) → 1 ≤ e → e ≤ length h.nets → get_or T.sizes (e - 1) 0 ≡ get_or T.loaded (e - 1) 0
      many zero a b = absurd (omega arith)
      many (suc d) a b = rw (down d) (as_many d (omega arith))

      often : (e v : ℕ) → 1 ≤ e → e ≤ length h.nets
          → occ T.pins (get_or T.firsts (e - 1) 0) (get_or T.sizes (e - 1) 0) v ≡ occ pins (get_or T.firsts (e - 1) 0) (get_or T.loaded (e - 1) 0) v
      often zero v a b = absurd (omega arith)
      often (suc d) v a b = rw (down d) (pins-in sound d v (omega arith) ∙ sym (loaded-often d v (omega arith)))
