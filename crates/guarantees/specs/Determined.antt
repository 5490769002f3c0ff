-- What the tables held before loading, the catalogue and the machine's state tell every entry of lent memory: two sets of tables that hold for
-- them are the same (holds_same). Rests on Stretches, and on laws' Rising. Assumes nothing.
use Rattle.std.specs.Prelude.{ℕ, zero, suc, ◌+◌, ◌-◌, ◌≤◌, ◌<◌, ◌≡◌, Bool, List, length, get_or}
use Rattle.std.proofs.Math.Decide.{dec_lt}
use Rattle.std.proofs.Common.{arith, sym, ◌∙◌, ext_get_or}
use Rattle.laws.specs.Sum.{sum_to, sum_to-nil, sum_to-suc, sum_to-list}
use Rattle.laws.specs.Rising.{rising-same}
use Rattle.model.specs.Catalogue.{Hypergraph}
use Rattle.model.specs.Measure.{Contraction, size}
use Rattle.model.specs.Machine.{State}
use Rattle.model.specs.Memory.{Tables, Filled, Loaded, Pins, HoldsFor, no_net, net, all_pins, first_place, taken_out}
use Rattle.guarantees.specs.Stretches.{pins-length}

-- ---- a place of the mark tables is a buyer's
record Place (g : ℕ → ℕ) (n i : ℕ) : Type 0 where
  buyer : ℕ
  some : 1 ≤ buyer
  few : buyer ≤ n
  from : sum_to (buyer - 1) g ≤ i
  within : i < sum_to (buyer - 1) g + g buyer

place_of : (g : ℕ → ℕ) (n i : ℕ) → i < sum_to n g → Place g n i
place_of g zero i h = absurd (omega (arith, sum_to-nil zero g (λ e l u. absurd (omega arith))))
place_of g (suc n) i h = go (dec_lt i (sum_to n g)) (place_of g n i)
  where
    down : suc n - 1 ≡ n
    down = omega arith

    go : Dec (i < sum_to n g) → (i < sum_to n g → Place g n i) → Place g (suc n) i
    go (yes k) ih = let p = ih k in record { buyer = p.buyer; some = p.some; few = omega (arith, p.few); from = p.from; within = p.within }
    go (no k) ih = record {
      buyer = suc n;
      some = omega arith;
      few = omega arith;
      from = rw down (omega arith);
      within = rw down (omega (arith, sum_to-suc n g));
    }

-- ---- table by table
filled-same : {A : Type 0} {none : A} {used : ℕ → Bool} {value : ℕ → A} {old new new' : List A} → Filled none used value old new → Filled none used value old new' → new ≡ new'
filled-same {none = none} {new = new} {new' = new'} p q = ext_get_or none new new' (p.as_long ∙ sym q.as_long) (λ i l. p.entries i (omega (arith, p.as_long)) ∙ sym (q.entries i (omega (arith, p.as_long))))

loaded-same : {h : Hypergraph} {changed : Bool} {old new new' : List ℕ} → Loaded h changed old new → Loaded h changed old new' → new ≡ new'
loaded-same {h} {old = old} {new} {new'} p q = ext_get_or 0 new new' (p.as_long ∙ sym q.as_long) (λ i l. go i (omega (arith, p.as_long)) (dec_lt i (length (all_pins h.nets))))
  where
    go : (i : ℕ) → i < length old → Dec (i < length (all_pins h.nets)) → get_or new i 0 ≡ get_or new' i 0
    go i l (yes k) = p.marks i k ∙ sym (q.marks i k)
    go i l (no k) = p.past i (omega arith) l ∙ sym (q.past i (omega arith) l)

pins-same : {h : Hypergraph} {changed : Bool} {cs : List Contraction} {old new new' : List ℕ} → Pins h changed cs old new → Pins h changed cs old new' → new ≡ new'
unfolding first_place
pins-same {h} {changed} {cs} {old} {new} {new'} p q = ext_get_or 0 new new' (p.as_long ∙ sym q.as_long) (λ i l. go i (omega (arith, p.as_long)) (dec_lt i (length (all_pins h.nets))))
  where
    pins : ℕ → ℕ
    pins e = length (net h e).pins

    total : sum_to (length h.nets) pins ≡ length (all_pins h.nets)
    total = sum_to-list h.nets no_net (λ e. length e.pins) ∙ sym (pins-length h.nets)

    -- in a buyer's stretch: a present mark, or one taken out
    inside : (e j : ℕ) → 1 ≤ e → e ≤ length h.nets → j < pins e → Dec (j < size h cs (net h e)) → get_or new (first_place h e + j) 0 ≡ get_or new' (first_place h e + j) 0
    inside e j l u k (yes s) = rising-same new new' (first_place h e) (size h cs (net h e)) (λ a b. p.rising e a b l u) (λ a b. q.rising e a b l u) (λ x. p.sets e x l u ∙ sym (q.sets e x l u)) j s
    inside e j l u k (no s) =
        let i : ℕ = j - size h cs (net h e) in
        let z : j ≡ size h cs (net h e) + (j - size h cs (net h e)) = omega arith in
        let f : j - size h cs (net h e) < length (taken_out cs (net h e)) = omega (arith, p.whole e l u) in
        rw z (p.taken e (j - size h cs (net h e)) l u f ∙ sym (q.taken e (j - size h cs (net h e)) l u f))

    go : (i : ℕ) → i < length old → Dec (i < length (all_pins h.nets)) → get_or new i 0 ≡ get_or new' i 0
    go i l (no k) = p.past i (omega arith) l ∙ sym (q.past i (omega arith) l)
    go i l (yes k) =
        let w : Place pins (length h.nets) i = place_of pins (length h.nets) i (omega (arith, total)) in
        let z : i ≡ sum_to (w.buyer - 1) pins + (i - sum_to (w.buyer - 1) pins) = omega (arith, w.from) in
        rw z (inside w.buyer (i - sum_to (w.buyer - 1) pins) w.some w.few (omega (arith, w.from, w.within)) (dec_lt (i - sum_to (w.buyer - 1) pins) (size h cs (net h w.buyer))))

pub holds_same : {changed : Bool} {h : Hypergraph} {s : State} {old new new' : Tables} → HoldsFor changed h s old new → HoldsFor changed h s old new' → new ≡ new'
holds_same {new = new} {new' = new'} p q = λ i. record {
  weights = filled-same p.weights q.weights i;
  blocks = filled-same p.blocks q.blocks i;
  aboves = filled-same p.aboves q.aboves i;
  fixed = filled-same p.fixed q.fixed i;
  loaded_pins = loaded-same p.loaded_pins q.loaded_pins i;
  present_pins = pins-same p.present_pins q.present_pins i;
  firsts = filled-same p.firsts q.firsts i;
  loaded_sizes = filled-same p.loaded_sizes q.loaded_sizes i;
  present_sizes = filled-same p.present_sizes q.present_sizes i;
  counts = filled-same p.counts q.counts i;
  gains = filled-same p.gains q.gains i;
  index = filled-same p.index q.index i;
  visited = filled-same p.visited q.visited i;
}
