-- Lent memory between two calls is document 01's for the catalogue and the machine's state there, each table by a law of its own: entries in use are those of
-- a sound sale, and the others are as Unused says; the index goes by the gains and blocks that stand. Rests on Unused, Mask and Taken. Assumes nothing.
use Prim.Native.Nat.{ℕ, zero, suc, ◌+◌, ◌-◌, ◌*◌, ◌/◌, ◌%◌, ◌<◌, ◌≤◌}
use Rattle.std.proofs.Math.Nat.{div-add-mod}
use Rattle.std.proofs.Common.{add-one, ◌∙◌, subst, true≢false, inl, inr, ⊎_elim, ltb-true, ltb-false, get_or-take}
use native.Mathlib.Omega.{arith}
use Rattle.std.specs.Prelude.{◌≡◌, Bool, ◌&&◌, ◌⊎◌, length, ℤ, ◌-ℤ◌}
use Rattle.std.proofs.Math.Path.{refl, sym, ap, ap₂}
use Rattle.std.proofs.Math.Bool.{true, false, cond}
use Rattle.std.proofs.Math.Logic.{⊎_map}
use mathlib.Core.List.{List, [], ◌∷◌}
use Rattle.std.proofs.Math.Dec.{eqb, ltb}
use Rattle.std.proofs.Math.ListN.{get_or, get_or-eq_default}
use Rattle.std.proofs.Math.IntN.{pos}
use Rattle.laws.specs.Choice.{one, and_left, and_right}
use Rattle.laws.specs.Fold.{sum_over, All, sum_over-all}
use Rattle.laws.specs.Sum.{sum_to, sum_to-ext}
use Rattle.laws.specs.Occurrence.{occ, occ-total}
use Rattle.model.specs.Catalogue.{Net, Hypergraph, vertices, in_sale, fixed_entry}
use Rattle.model.specs.Measure.{Contraction, above, on_board, pin, size, pin_count, freed, drawn, gain}
use Rattle.model.specs.Machine.{State}
use Rattle.model.specs.Index.{ranked}
use Rattle.model.specs.Memory.{Tables as MemoryTables, Filled, Column, Grid, HoldsFor, taken_out, net, all_pins, first_place, weight_entry, block_entry, gain_entry, index_entry, mask}
use Rattle.guarantees.specs.Clumps.{pin-board}
use Rattle.guarantees.specs.Ranks.{ranked-is, ranked-ext}
use Rattle.index.specs.Row.{gain_at}
use Rattle.index.specs.Indexed.{row_for, row-off, row_on, AllRight}
use Rattle.connectivity.specs.Raised.{at}
use Rattle.pins.specs.Stack.{loaded_pin, past}
use Rattle.pins.specs.Stretch.{Stretch}
use Rattle.levels.specs.Running.{net_at}
use Rattle.levels.specs.Reading.{Reads, reads}
use Rattle.operations.specs.Tables.{Tables as CallTables, running_of, Sound, Past}
use Rattle.renewal.specs.Nets.{first-place, Stored}
use Rattle.memory.specs.Mask.{mask_is}
use Rattle.memory.specs.Taken.{past-taken}
use Rattle.memory.specs.Unused.{memory_of, Unused}

-- ---- a table by its entries in use and those kept
filled : {A : Type 0} {none : A} {used : ℕ → Bool} {value : ℕ → A} {old new : List A} → length new ≡ length old → ((i : ℕ) → used i ≡ true → get_or new i none ≡ value i)
    → ((i : ℕ) → used i ≡ false → i < length old → get_or new i none ≡ get_or old i none) → Filled none used value old new
filled {none = none} {used = used} {value = value} {old = old} {new = new} len told kept = record { as_long = len; entries = λ i l. go i l (used i) refl }
  where
    go : (i : ℕ) → i < length old → (t : Bool) → used i ≡ t → get_or new i none ≡ cond (used i) (value i) (get_or old i none)
    go i l true q = rw q (told i q)
    go i l false q = rw q (kept i q l)

-- n in use
column : {n z : ℕ} (value : ℕ → ℕ) {old new : List ℕ} → n ≡ z → Past n old new → ((i : ℕ) → i < z → get_or new i 0 ≡ value (suc i)) → Column z value old new
column {n} {z} value e kept told = filled kept.len (λ i q. told i (ltb-true i z q)) (λ i q l. kept.past i (omega (arith, ltb-false i z q)))

-- n rows of 16, k of each in use
grid : {A : Type 0} {none : A} {n k : ℕ} (value : ℕ → ℕ → A) {old new : List A} → length new ≡ length old → ((x j : ℕ) → x < n → j < k → get_or new (16 * x + j) none ≡ value (suc x) (suc j))
    → ((x j : ℕ) → j < 16 → (n ≤ x) ⊎ (k ≤ j) → get_or new (16 * x + j) none ≡ get_or old (16 * x + j) none) → Grid none n k value old new
grid {none = none} {n = n} {k = k} value {old = old} {new = new} len told kept = filled len
    (λ i q. subst (λ (z : ℕ). get_or new z none ≡ value (suc (i / 16)) (suc (i % 16))) (div-add-mod i 16) (told (i / 16) (i % 16) (ltb-true (i / 16) n (and_left _ _ q)) (ltb-true (i % 16) k (and_right (ltb (i / 16) n) _ q))))
    (λ i q l. subst (λ (z : ℕ). get_or new z none ≡ get_or old z none) (div-add-mod i 16) (kept (i / 16) (i % 16) (omega arith) (outside i (ltb (i / 16) n) refl q)))
  where
    outside : (i : ℕ) (t : Bool) → ltb (i / 16) n ≡ t → (t && ltb (i % 16) k) ≡ false → (n ≤ i / 16) ⊎ (k ≤ i % 16)
    outside i true e q = inr (ltb-false (i % 16) k q)
    outside i false e q = inl (ltb-false (i / 16) n e)

-- lent memory counts nets from 1, the running tables count them from 0
pub net-at : (h : Hypergraph) (e : ℕ) → net_at h e ≡ net h (suc e)
net-at h e = let down : suc e - 1 ≡ e = omega arith in rw down

sum-none : {A : Type 0} (l : List A) → sum_over l (λ _. 0) ≡ 0
unfolding sum_over
sum-none [] = refl
sum-none (x ∷ l) = omega (arith, sum-none l)

-- ---- the entries in use, of a sound sale
module _ {h : Hypergraph} {cs : List Contraction} {block : ℕ → ℕ} {T : CallTables} (sound : Sound h cs block T) where
  all-vertices : T.n ≡ vertices h
  all-vertices = sound.follows.says.all-vertices

  pub all-nets : T.m ≡ length h.nets
  all-nets = sound.follows.says.all-nets

  all_blocks : T.k ≡ h.blocks
  all_blocks = sound.follows.says.all_blocks

  read : Reads h cs block (running_of T) T.n T.m T.k
  read = reads sound.follows

  weight-in : (y : ℕ) → y < vertices h → get_or T.weights y 0 ≡ weight_entry h cs block (suc y)
  weight-in y l = sound.weighs y (omega (arith, all-vertices)) ∙ ap (weight_entry h cs block) (add-one y)

  above_in : (y : ℕ) → y < vertices h → get_or T.aboves y 0 ≡ above cs (suc y)
  above_in y l = sound.hangs y (omega (arith, all-vertices)) ∙ ap (above cs) (add-one y)

  -- off the board the partition has 0
  placed-entry : (v : ℕ) → 1 ≤ v → v ≤ vertices h → block v ≡ block_entry h cs block v
  unfolding block_entry
  placed-entry v l u = go (on_board h cs v) refl
    where
      go : (b : Bool) → on_board h cs v ≡ b → block v ≡ cond b (block v) 0
      go true q = refl
      go false q = (sound.placed v l u).off q

  block_in : (y : ℕ) → y < vertices h → get_or T.blocks y 0 ≡ block_entry h cs block (suc y)
  block_in y l = sound.follows.says.sits y (omega (arith, all-vertices)) ∙ placed-entry (y + 1) (omega arith) (omega arith) ∙ ap (block_entry h cs block) (add-one y)

  pub pins-in : (e v : ℕ) → e < length h.nets → occ T.pins (get_or T.firsts e 0) (get_or T.sizes e 0) v ≡ one (pin cs (net h (suc e)) v)
  pins-in e v l = read.listed e v (omega (arith, all-nets)) ∙ ap (λ (a : Net). one (pin cs a v)) (net-at h e)

  -- a stretch has each present pin once and nothing else, so it is as long as they are many
  pub size_in : (e : ℕ) → e < length h.nets → get_or T.sizes e 0 ≡ size h cs (net h (suc e))
  unfolding size
  size_in e l =
      sym (occ-total T.pins (get_or T.firsts e 0) (get_or T.sizes e 0) T.n (sound.follows.world.lists.nets e (omega (arith, all-nets))).in-range)
      ∙ sum_to-ext T.n (occ T.pins (get_or T.firsts e 0) (get_or T.sizes e 0)) (λ v. one (pin cs (net h (suc e)) v)) (λ v _ _. pins-in e v l)
      ∙ ap (λ (z : ℕ). sum_to z (λ v. one (pin cs (net h (suc e)) v))) all-vertices

  count-in : (e j : ℕ) → e < length h.nets → j < h.blocks → get_or T.counts (16 * e + j) 0 ≡ pin_count h cs block (net h (suc e)) (suc j)
  count-in e j l u = read.counted e j (omega (arith, all-nets)) (omega (arith, all_blocks)) ∙ ap₂ (pin_count h cs block) (net-at h e) (add-one j)

  mask-in : (e : ℕ) → e < length h.nets → get_or T.visited e 0 ≡ mask h cs block (net h (suc e))
  unfolding mask
  mask-in e l =
      mask_is h.blocks (get_or T.visited e 0) (λ b. ltb 0 (pin_count h cs block (net h (suc e)) b))
      (λ j u. read.shown e j (omega (arith, all-nets)) (omega (arith, all_blocks)) ∙ ap (λ (a : Net). one (ltb 0 (pin_count h cs block a (j + 1)))) (net-at h e))
      (λ j u. sound.no-more-blocks e j (omega (arith, all-nets)) (omega (arith, all_blocks)))

  -- off the board a vertex is no net's pin, so it has no gain
  no_pin : (v : ℕ) → on_board h cs v ≡ false → (e : Net) → All e.pins (λ x. in_sale h x ≡ true) → pin cs e v ≡ false
  no_pin v q e w = go (pin cs e v) refl
    where
      go : (b : Bool) → pin cs e v ≡ b → pin cs e v ≡ false
      go true y = absurd (true≢false (sym (pin-board h cs sound.follows.says.sound sound.inside e w v y) ∙ q))
      go false y = y

  no-sum : (v : ℕ) → on_board h cs v ≡ false → (f : Net → Bool) → sum_over h.nets (λ e. cond (pin cs e v && f e) e.weight 0) ≡ 0
  no-sum v q f =
      sum_over-all h.nets _ _ (λ _. 0) sound.fit.ranges.loaded.nets-sale (λ e w. ap (λ (b : Bool). cond (b && f e) e.weight 0) (no_pin v q e w))
      ∙ sum-none h.nets

  no-gain : (v t : ℕ) → on_board h cs v ≡ false → gain h cs block v t ≡ pos 0
  unfolding gain freed drawn
  no-gain v t q = rw (no-sum v q (λ e. eqb (pin_count h cs block e (block v)) 1), no-sum v q (λ e. eqb (pin_count h cs block e t) 0)) (none (eqb (block v) t))
    where
      none : (b : Bool) → cond b (pos 0) (pos 0 -ℤ pos 0) ≡ pos 0
      none true = refl
      none false = refl

  gain-in : (y j : ℕ) → y < vertices h → j < h.blocks → at T.gains (16 * y + j) ≡ gain_entry h cs block (suc y) (suc j)
  unfolding gain_entry
  gain-in y j l u =
      read.gained y j (omega (arith, all-vertices)) (omega (arith, all_blocks))
      ∙ go (on_board h cs (y + 1)) refl
      ∙ ap₂ (λ (v b : ℕ). cond (on_board h cs v) (gain h cs block v b) (pos 0)) (add-one y) (add-one j)
    where
      go : (b : Bool) → on_board h cs (y + 1) ≡ b → gain h cs block (y + 1) (j + 1) ≡ cond (on_board h cs (y + 1)) (gain h cs block (y + 1) (j + 1)) (pos 0)
      go true q = rw q refl
      go false q = rw q (no-gain (y + 1) (j + 1) q)

  -- by the table's gains a vertex's other blocks stand in the order of choice, since these gains are the machine's
  row_in : (y : ℕ) → y < vertices h → row_for T.gains T.blocks T.k y ≡ cond (on_board h cs (y + 1)) (ranked (gain h cs block) (y + 1) (block (y + 1)) h.blocks) []
  row_in y l = go (on_board h cs (y + 1)) refl
    where
      own : block (y + 1) ≡ get_or T.blocks y 0
      own = sym (sound.follows.says.sits y (omega (arith, all-vertices)))

      down : (b : ℕ) → 1 ≤ b → b - 1 + 1 ≡ b
      down b bl = omega arith

      worth : (b : ℕ) → 1 ≤ b → b ≤ T.k → gain_at T.gains y b ≡ gain h cs block (y + 1) b
      worth b bl bu = read.gained y (b - 1) (omega (arith, all-vertices)) (omega arith) ∙ ap (gain h cs block (y + 1)) (down b bl)

      go : (b : Bool) → on_board h cs (y + 1) ≡ b → row_for T.gains T.blocks T.k y ≡ cond (on_board h cs (y + 1)) (ranked (gain h cs block) (y + 1) (block (y + 1)) h.blocks) []
      go true q =
          row_on T.gains T.blocks T.k y (block (y + 1)) own (λ z. omega (arith, z, ((sound.placed (y + 1) (omega arith) (omega arith)).board q).0))
          ∙ ranked-ext (gain h cs block (y + 1)) (gain_at T.gains y) (block (y + 1)) T.k worth
          ∙ sym (ranked-is (gain h cs block) (y + 1) (block (y + 1)) T.k)
          ∙ ap (ranked (gain h cs block) (y + 1) (block (y + 1))) all_blocks
          ∙ ap (λ (b : Bool). cond b (ranked (gain h cs block) (y + 1) (block (y + 1)) h.blocks) []) (sym q)
      go false q =
          row-off T.gains T.blocks T.k y (block (y + 1)) own ((sound.placed (y + 1) (omega arith) (omega arith)).off q)
          ∙ ap (λ (b : Bool). cond b (ranked (gain h cs block) (y + 1) (block (y + 1)) h.blocks) []) (sym q)

  index_in : (index : List ℕ) → AllRight T.gains T.blocks T.n T.k index → (y j : ℕ) → y < vertices h → j < h.blocks → get_or index (16 * y + j) 0 ≡ index_entry h cs block (suc y) (suc j)
  unfolding index_entry
  index_in index r y j l u =
      let down : suc j - 1 ≡ j = omega arith in
      r y (omega (arith, all-vertices)) j (omega (arith, all_blocks))
      ∙ ap (λ (m : List ℕ). get_or m j 0) (row_in y l)
      ∙ inside (on_board h cs (y + 1))
      ∙ ap₂ (λ (v i : ℕ). cond (on_board h cs v) (get_or (ranked (gain h cs block) v (block v) h.blocks) i 0) 0) (add-one y) (sym down)
    where
      inside : (on : Bool) → get_or (cond on (ranked (gain h cs block) (y + 1) (block (y + 1)) h.blocks) []) j 0 ≡ cond on (get_or (ranked (gain h cs block) (y + 1) (block (y + 1)) h.blocks) j 0) 0
      inside true = refl
      inside false = get_or-eq_default [] 0 {n = j} (omega arith)

-- ---- all tables
-- what stands is what model says of the catalogue and the state, where `old` is what the tables held before loading
pub held : {changed : Bool} {h : Hypergraph} {s : State} {old : MemoryTables} {T : CallTables} {fixed pins index : List ℕ} → Sound h s.stack s.block T → Stored h.nets pins T.firsts T.loaded
    → ((x : ℕ) → x < T.n → get_or fixed x 0 ≡ fixed_entry h (x + 1)) → AllRight T.gains T.blocks T.n T.k index
    → Unused changed T.n T.m T.k (length (all_pins h.nets)) old (memory_of T fixed pins index) → HoldsFor changed h s old (memory_of T fixed pins index)
held {changed} {h} {s} {old} {T} {fixed} {pins} {index} sound stored fixed-is right unused = record {
  weights = column (weight_entry h s.stack s.block) n-is unused.weights (weight-in sound);
  blocks = column (block_entry h s.stack s.block) n-is unused.blocks (block_in sound);
  aboves = column (above s.stack) n-is unused.aboves (above_in sound);
  fixed = column (fixed_entry h) n-is unused.fixed (λ y l. fixed-is y (omega (arith, n-is)) ∙ ap (fixed_entry h) (add-one y));
  loaded_pins = record { as_long = unused.loaded_pins.len; marks = mark-in; past = unused.loaded_pins.past };
  present_pins = record { as_long = unused.present_pins.len; sets = sets; rising = rising; whole = whole; taken = taken; past = unused.present_pins.past };
  firsts = column (first_place h) m-is unused.firsts first-at;
  loaded_sizes = column (λ e. length (net h e).pins) m-is unused.loaded_sizes size-at;
  present_sizes = column (λ e. size h s.stack (net h e)) m-is unused.present_sizes (size_in sound);
  counts = grid (λ e b. pin_count h s.stack s.block (net h e) b) unused.counts-len (count-in sound) (λ e j u o. unused.counts e j u (⊎_map (λ q. omega (arith, m-is)) (λ q. omega (arith, k-is)) o));
  gains = grid (gain_entry h s.stack s.block) unused.gains.gains-len (gain-in sound) (λ y j u. ⊎_elim (λ l. unused.gains.gains-over y j (omega (arith, n-is)) u) (λ l. unused.gains.gains-past y j (omega (arith, k-is)) u));
  index = grid (index_entry h s.stack s.block) unused.index.len (index_in sound index right) (λ y j u. ⊎_elim
      (λ l. unused.index.past (16 * y + j) (λ used. omega (arith, used, n-is)))
      (λ l. unused.index.past (16 * y + j) (λ used. omega (arith, used, k-is))));
  visited = column (λ e. mask h s.stack s.block (net h e)) m-is unused.visited (mask-in sound);
}
  where
    n-is : T.n ≡ vertices h
    n-is = all-vertices sound

    m-is : T.m ≡ length h.nets
    m-is = all-nets sound

    k-is : T.k ≡ h.blocks
    k-is = all_blocks sound

    first-at : (e : ℕ) → e < length h.nets → get_or T.firsts e 0 ≡ first_place h (suc e)
    first-at e l = stored.first-is e l ∙ sym (first-place h e (omega arith))

    size-at : (e : ℕ) → e < length h.nets → get_or T.loaded e 0 ≡ length (net h (suc e)).pins
    size-at e l = stored.size_is e l ∙ ap (λ (a : Net). length a.pins) (net-at h e)

    mark-in : (i : ℕ) → i < length (all_pins h.nets) → get_or pins i 0 ≡ get_or (all_pins h.nets) i 0
    mark-in i l = sym (get_or-take (length (all_pins h.nets)) pins i 0 l) ∙ ap (λ (r : List ℕ). get_or r i 0) stored.pins-are

    sets : (e v : ℕ) → 1 ≤ e → e ≤ length h.nets → occ T.pins (first_place h e) (size h s.stack (net h e)) v ≡ one (pin s.stack (net h e) v)
    sets zero v l u = absurd (omega arith)
    sets (suc e) v l u = ap₂ (λ (f z : ℕ). occ T.pins f z v) (sym (first-at e (omega arith))) (sym (size_in sound e (omega arith))) ∙ pins-in sound e v (omega arith)

    stretch : (e : ℕ) → e < length h.nets → Stretch (loaded_pin (net_at h e)) s.stack T.pins (get_or T.firsts e 0) (get_or T.sizes e 0) (get_or T.loaded e 0)
    stretch e l = sound.follows.says.board.nets e (omega (arith, m-is))

    out-is : (e : ℕ) → past (loaded_pin (net_at h e)) s.stack ≡ taken_out s.stack (net h (suc e))
    out-is e = past-taken (net_at h e) s.stack sound.follows.says.sound ∙ ap (taken_out s.stack) (net-at h e)

    rising : (e i j : ℕ) → 1 ≤ e → e ≤ length h.nets → i < j → j < size h s.stack (net h e) → get_or T.pins (first_place h e + i) 0 < get_or T.pins (first_place h e + j) 0
    rising zero i j l u ij jn = absurd (omega arith)
    rising (suc e) i j l u ij jn =
        let g : first_place h (suc e) ≡ get_or T.firsts e 0 = sym (first-at e (omega arith)) in
        rw g ((stretch e (omega arith)).rising i j ij (omega (arith, size_in sound e (omega arith))))

    whole : (e : ℕ) → 1 ≤ e → e ≤ length h.nets → size h s.stack (net h e) + length (taken_out s.stack (net h e)) ≡ length (net h e).pins
    whole zero l u = absurd (omega arith)
    whole (suc e) l u = omega (arith, (stretch e (omega arith)).whole, size_in sound e (omega arith), size-at e (omega arith), ap length (out-is e))

    taken : (e i : ℕ) → 1 ≤ e → e ≤ length h.nets → i < length (taken_out s.stack (net h e)) → get_or T.pins (first_place h e + (size h s.stack (net h e) + i)) 0 ≡ get_or (taken_out s.stack (net h e)) i 0
    taken zero i l u k = absurd (omega arith)
    taken (suc e) i l u k =
        ap₂ (λ (f z : ℕ). get_or T.pins (f + (z + i)) 0) (sym (first-at e (omega arith))) (sym (size_in sound e (omega arith)))
        ∙ (stretch e (omega arith)).after i (omega (arith, ap length (out-is e)))
        ∙ ap (λ (l : List ℕ). get_or l i 0) (out-is e)
