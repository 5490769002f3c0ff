-- The tables as loading leaves them become a running sale: blocks' weights, the draft's metric, and the tables filled are sound for a
-- fresh machine. Rests on first_tables and on operations's Tables. Assumes nothing.
use Rattle.std.specs.Prelude.{ℕ, ◌+◌, ◌*◌, ◌-◌, ◌<◌, ◌≤◌, ◌≡◌, refl, Bool, true, false, cond, eqb, length, get_or, set, ℤ}
use Rattle.std.proofs.Math.Decide.{ℕ_discrete}
use Rattle.std.proofs.Common.{mul-le-mul_left, mul-zero, add-one, arith, ◌∙◌, subst, eqb-true, length-set, get_or-set_same, get_or-set_other}
use Rattle.std.proofs.Math.Path.{sym, ap, ap₂}
use mathlib.Core.List.{List, []}
use Rattle.laws.specs.Choice.{one, one-full, cond_yes}
use Rattle.laws.specs.Sum.{sum, sum_to, sum-ext, sum_step, sum_mono, sum-const, sum-sum_to, sum-list}
use Rattle.laws.specs.Fold.{any_at, all-get}
use Rattle.laws.specs.Occurrence.{occ, occ-at, occ-distinct}
use Rattle.laws.specs.Bit.{bit, bit-lt}
use Rattle.model.specs.Catalogue.{Hypergraph, loaded, drafted, in_sale}
use Rattle.model.specs.Measure.{above, weight, block_weight, connectivity, metric}
use Rattle.model.specs.Memory.{no_net, weight_entry}
use Rattle.guarantees.specs.Board.{board-is}
use Rattle.guarantees.specs.Splits.{above-none, weight-none, block_weight-none}
use Rattle.incidence.specs.On.{on}
use Rattle.pins.specs.Stack.{loaded_pin}
use Rattle.pins.specs.Board.{Room, room-kept}
use Rattle.pins.specs.Stretch.{Stretch}
use Rattle.connectivity.specs.Laid.{Net as NetList}
use Rattle.connectivity.specs.Listed.{vertex_at}
use Rattle.connectivity.specs.Set.{Frame}
use Rattle.levels.specs.Running.{Running, running, Follows, net_at}
use Rattle.report.proofs.Climb.{connected}
use Rattle.first_tables.specs.Prepare.{Prepares, Prepared}
use Rattle.first_tables.specs.Load.{Loaded, prepared-follows}
use Rattle.block_weights.specs.Term.{block_term}
use Rattle.operations.specs.Tables.{tables, Fit, Sound}

-- the tables as loading leaves them: those of a catalogue within the ranges, before any call
pub record Opens (h : Hypergraph) (pins blocks firsts sizes loaded_sizes weights net_weights bits counts visited : List ℕ) (gains : List ℤ) (n m k : ℕ) : Type 0 where
  pub fit : Fit h
  pub made : Loaded h (drafted h) net_weights pins blocks firsts sizes n m k
  pub room : Room pins firsts sizes loaded_sizes bits n m
  pub same : (e : ℕ) → e < m → get_or sizes e 0 ≡ get_or loaded_sizes e 0
  pub bare : (x e : ℕ) → x < n → e < m → on bits x e ≡ 0
  pub weighs : (y : ℕ) → y < n → get_or weights y 0 ≡ loaded h (y + 1)
  pub frame : Frame net_weights counts visited gains n m k
  pub blocks-fit : n ≤ length blocks
  pub weights-fit : n ≤ length weights

-- the weights of the first k blocks
pub record Weighed (weights blocks : List ℕ) (n k : ℕ) (loads : List ℕ) : Type 0 where
  pub len : length loads ≡ 16
  pub loads-are : (j : ℕ) → j < k → get_or loads j 0 ≡ sum n (block_term (j + 1) weights blocks)

-- the metric by the nets' masks: weight × (set bits − 1), summed
abbrev pub metric_by : List ℕ → List ℕ → ℕ → ℕ
metric_by visited net_weights m = sum m (λ e. get_or net_weights e 0 * (sum 16 (bit (get_or visited e 0)) - 1))

module _ {h : Hypergraph} {pins blocks firsts sizes loaded_sizes weights net_weights bits counts visited : List ℕ} {gains : List ℤ} {n m k : ℕ}
    (o : Opens h pins blocks firsts sizes loaded_sizes weights net_weights bits counts visited gains n m k) where
  -- a loaded pin is a vertex
  pin-in : (e x : ℕ) → e < m → loaded_pin (net_at h e) x ≡ true → (1 ≤ x) × (x ≤ n)
  pin-in e x le q =
      let some = any_at (net_at h e).pins 0 (λ y. eqb y x) q in
      let within = all-get h.nets _ no_net o.fit.ranges.loaded.nets-in e (omega (arith, o.made.all-nets)) in
      let r = all-get (net_at h e).pins _ 0 within some.0 some.1 in
      omega (arith, r.0, r.1, eqb-true (get_or (net_at h e).pins some.0 0) x some.2, o.made.all-vertices)

  -- and in the sale
  pin-sale : (e x : ℕ) → e < m → loaded_pin (net_at h e) x ≡ true → in_sale h x ≡ true
  pin-sale e x le q =
      let some = any_at (net_at h e).pins 0 (λ y. eqb y x) q in
      let sold = all-get h.nets _ no_net o.fit.ranges.loaded.nets-sale e (omega (arith, o.made.all-nets)) in
      ap (in_sale h) (sym (eqb-true (get_or (net_at h e).pins some.0 0) x some.2)) ∙ all-get (net_at h e).pins _ 0 sold some.0 some.1

  -- so its draft block is one
  draft-in : (e x : ℕ) → e < m → loaded_pin (net_at h e) x ≡ true → (1 ≤ drafted h x) × (drafted h x ≤ k)
  draft-in e x le q =
      let i = pin-in e x le q in
      let r = (o.fit.ranges.placed x i.0 (omega (arith, i.1, o.made.all-vertices))).board (board-is h [] x (above-none x) (pin-sale e x le q)) in
      omega (arith, r.0, r.1, o.made.all_blocks)

  net-list : (e : ℕ) → e < m → NetList pins blocks (get_or firsts e 0) (get_or sizes e 0) n k
  net-list e le = record {
    pins-fit = omega (arith, o.room.pins-fit e le, o.same e le);
    in-range = at_place;
    in_blocks = λ j l.
        let r = at_place j l in
        let x : ℕ = get_or pins (get_or firsts e 0 + j) 0 in
        let z : vertex_at pins (get_or firsts e 0) j < n = omega (arith, r.0, r.1) in
        let u : vertex_at pins (get_or firsts e 0) j + 1 ≡ x = omega (arith, r.0) in
        omega (arith, o.made.sits (vertex_at pins (get_or firsts e 0) j) z, ap (drafted h) u, draft-in e x le (pin_at j l));
    once = λ i j l u q. omega (arith, occ-distinct pins (get_or firsts e 0) (get_or sizes e 0) few i j (omega arith) u q);
  }
    where
      few : (x : ℕ) → occ pins (get_or firsts e 0) (get_or sizes e 0) x ≤ 1
      few x = omega (arith, o.made.listed e le x, one-le' (loaded_pin (net_at h e) x))
        where
          one-le' : (b : Bool) → one b ≤ 1
          one-le' true = omega arith
          one-le' false = omega arith

      pin_at : (j : ℕ) → j < get_or sizes e 0 → loaded_pin (net_at h e) (get_or pins (get_or firsts e 0 + j) 0) ≡ true
      pin_at j l =
          let x : ℕ = get_or pins (get_or firsts e 0 + j) 0 in
          one-full (loaded_pin (net_at h e) x) (omega (arith, o.made.listed e le x, occ-at pins (get_or firsts e 0) (get_or sizes e 0) j x l refl))

      at_place : (j : ℕ) → j < get_or sizes e 0 → (1 ≤ get_or pins (get_or firsts e 0 + j) 0) × (get_or pins (get_or firsts e 0 + j) 0 ≤ n)
      at_place j l = pin-in e (get_or pins (get_or firsts e 0 + j) 0) le (pin_at j l)

  pub prepare-ok : Prepares net_weights counts visited pins blocks firsts sizes bits gains n m k
  prepare-ok = record {
    lists = record { nets = net-list; blocks-fit = o.blocks-fit; firsts-fit = o.room.firsts-fit; sizes-fit = o.room.sizes-fit };
    frame = o.frame;
    bits_fit = o.room.bits_fit;
    bare = o.bare;
  }

  -- the loads are the draft's block weights
  pub weighed-draft : {loads : List ℕ} → Weighed weights blocks n k loads → (j : ℕ) → j < k → get_or loads j 0 ≡ block_weight h [] (drafted h) (j + 1)
  weighed-draft b j l =
      b.loads-are j l
      ∙ sum-sum_to n _ (λ u. cond (eqb (drafted h u) (j + 1)) (loaded h u) 0) (λ i li. ap₂ (λ (x y : ℕ). cond (eqb x (j + 1)) y 0) (o.made.sits i li) (o.weighs i li) ∙ ap (λ (u : ℕ). cond (eqb (drafted h u) (j + 1)) (loaded h u) 0) (add-one i))
      ∙ ap (λ (z : ℕ). sum_to z (λ u. cond (eqb (drafted h u) (j + 1)) (loaded h u) 0)) o.made.all-vertices
      ∙ sym (block_weight-none h (drafted h) (j + 1))

  room-by-sizes : Room pins firsts sizes sizes bits n m
  room-by-sizes = let r = o.room in record {
    firsts-fit = r.firsts-fit;
    sizes-fit = r.sizes-fit;
    loaded-fit = r.sizes-fit;
    bits_fit = r.bits_fit;
    few-nets = r.few-nets;
    few-vertices = r.few-vertices;
    pins-fit = λ e l. omega (arith, r.pins-fit e l, o.same e l);
    apart = λ d e ld le ne. rw (o.same d ld, o.same e le) (r.apart d e ld le ne);
  }

  -- only the entries in use of the loaded sizes count
  follows_by : {T : Running} → Follows h [] (drafted h) sizes T n m k → T.pins ≡ pins → T.sizes ≡ sizes → T.firsts ≡ firsts → length T.bits ≡ length bits → Follows h [] (drafted h) loaded_sizes T n m k
  follows_by {T} w qp qs qf qb = record {
    says = record {
      sound = w.says.sound;
      board = record {
        nets = λ e l. subst (Stretch (loaded_pin (net_at h e)) [] T.pins (get_or T.firsts e 0) (get_or T.sizes e 0)) (o.same e l) (w.says.board.nets e l);
        marked = w.says.board.marked;
      };
      all-vertices = w.says.all-vertices;
      all-nets = w.says.all-nets;
      all_blocks = w.says.all_blocks;
      weighs = w.says.weighs;
      sits = w.says.sits;
    };
    world = w.world;
    room = rw (qp, qs, qf) (room-kept refl refl qb o.room);
  }

  module _ {bits' counts' visited' loads : List ℕ} {gains' : List ℤ} {total : ℕ} (t : Prepared net_weights pins blocks firsts sizes n m k bits bits' counts counts' visited visited' gains gains')
      (b : Weighed weights blocks n k loads) (c : total ≡ metric_by visited' net_weights m) where
    fresh-follows : Follows h [] (drafted h) loaded_sizes (running counts' visited' gains' pins sizes bits' blocks net_weights firsts) n m k
    fresh-follows = follows_by (prepared-follows o.made room-by-sizes t) refl refl refl t.bits-len

    -- the metric by masks is the draft's
    metric-is : metric_by visited' net_weights m ≡ metric h [] (drafted h)
    unfolding metric
    metric-is =
        sum-ext m _ (λ e. (net_at h e).weight * (connectivity h [] (drafted h) (net_at h e) - 1)) (λ e l.
        ap₂ (λ (x y : ℕ). x * (y - 1)) (o.made.weighs e l) (connected fresh-follows t.masks-past e l))
        ∙ ap (λ (z : ℕ). sum z (λ e. (net_at h e).weight * (connectivity h [] (drafted h) (net_at h e) - 1))) o.made.all-nets
        ∙ sum-list h.nets no_net (λ e. e.weight * (connectivity h [] (drafted h) e - 1))

    -- the tables are sound for a fresh machine, with no vertex above another
    pub open-sound : (aboves : List ℕ) → n ≤ length aboves → ((y : ℕ) → y < n → get_or aboves y 0 ≡ 0) →
        Sound h [] (drafted h) (tables counts' visited' gains' pins sizes bits' blocks weights aboves loads net_weights firsts loaded_sizes n m k total)
    unfolding weight_entry
    open-sound aboves fits none = record {
      fit = o.fit;
      inside = tt;
      placed = o.fit.ranges.placed;
      follows = fresh-follows;
      no-more-blocks = λ e j l q. t.masks-past e j l q;
      weighs = λ y l. o.weighs y l ∙ sym (cond_yes (above [] (y + 1)) 0 (weight h [] (y + 1)) _ (above-none (y + 1)) ∙ weight-none h (y + 1) (omega arith) (omega (arith, o.made.all-vertices)));
      hangs = λ y l. none y l ∙ sym (above-none (y + 1));
      bears = weighed-draft b;
      total-is = c ∙ metric-is;
      weights-fit = o.weights-fit;
      aboves-fit = fits;
      loads-fit = b.len;
    }

-- masks and weights of m nets are there, and no weight is above document 01's
pub record Measurable (visited net_weights : List ℕ) (m : ℕ) : Type 0 where
  pub few : m ≤ 1024
  pub masks-fit : m ≤ length visited
  pub weights-fit : m ≤ length net_weights
  pub light : (e : ℕ) → e < m → get_or net_weights e 0 ≤ 1000

-- what `open` needs: the tables of some loaded catalogue
pub record CanOpen (pins blocks firsts sizes weights net_weights bits counts visited : List ℕ) (gains : List ℤ) (loads : List ℕ) (n m k : ℕ) : Type 0 where
  pub h : Hypergraph
  pub loaded_sizes : List ℕ
  pub opens : Opens h pins blocks firsts sizes loaded_sizes weights net_weights bits counts visited gains n m k
  pub loads-len : length loads ≡ 16

-- what it does: for whatever catalogue the tables were loaded, they are sound for a fresh machine over it; and what is not in use is kept
pub record Opened (pins blocks firsts sizes weights net_weights : List ℕ) (n m k : ℕ) (bits bits' counts counts' visited visited' : List ℕ) (gains gains' : List ℤ) (loads : List ℕ) (total : ℕ) : Type 0 where
  pub sound : (h : Hypergraph) (loaded_sizes aboves : List ℕ) → Opens h pins blocks firsts sizes loaded_sizes weights net_weights bits counts visited gains n m k → n ≤ length aboves → ((y : ℕ) → y < n → get_or aboves y 0 ≡ 0) →
      Sound h [] (drafted h) (tables counts' visited' gains' pins sizes bits' blocks weights aboves loads net_weights firsts loaded_sizes n m k total)
  pub prepared : Prepared net_weights pins blocks firsts sizes n m k bits bits' counts counts' visited visited' gains gains'

pub opened : {pins blocks firsts sizes weights net_weights bits bits' counts counts' visited visited' loads : List ℕ} {gains gains' : List ℤ} {n m k total : ℕ} →
    Prepared net_weights pins blocks firsts sizes n m k bits bits' counts counts' visited visited' gains gains' → Weighed weights blocks n k loads → total ≡ metric_by visited' net_weights m →
    Opened pins blocks firsts sizes weights net_weights n m k bits bits' counts counts' visited visited' gains gains' loads total
opened t b c = record { sound = λ h loaded_sizes aboves o fits none. open-sound o t b c aboves fits none; prepared = t }

-- one net more
pub metric-more : (visited net_weights : List ℕ) (e t w : ℕ) → t ≡ metric_by visited net_weights e → w ≡ get_or net_weights e 0 * (sum 16 (bit (get_or visited e 0)) - 1) → t + w ≡ metric_by visited net_weights (e + 1)
metric-more visited net_weights e t w q r = ap₂ (λ (x y : ℕ). x + y) q r ∙ sym (sum_step e (λ i. get_or net_weights i 0 * (sum 16 (bit (get_or visited i 0)) - 1)))

-- one block more
pub record WeighedTo (weights blocks : List ℕ) (n b : ℕ) (loads : List ℕ) : Type 0 where
  pub len : length loads ≡ 16
  pub done : (j : ℕ) → j < b → get_or loads j 0 ≡ sum n (block_term (j + 1) weights blocks)

pub weighed-more : {weights blocks loads : List ℕ} {n : ℕ} (b w : ℕ) → b < 16 → WeighedTo weights blocks n b loads → w ≡ sum n (block_term (b + 1) weights blocks) → WeighedTo weights blocks n (b + 1) (set loads b w)
weighed-more {weights} {blocks} {loads} {n} b w l s q = record {
  len = length-set loads b w ∙ s.len;
  done = λ j lj. go j lj (ℕ_discrete j b);
}
  where
    go : (j : ℕ) → j < b + 1 → Dec (j ≡ b) → get_or (set loads b w) j 0 ≡ sum n (block_term (j + 1) weights blocks)
    go j lj (yes e) = rw e (get_or-set_same loads b w 0 (omega (arith, s.len)) ∙ q)
    go j lj (no ne) = get_or-set_other loads b j w 0 ne ∙ s.done j (omega arith)

-- a mask has at most 16 set bits
pub bits-le : (mask : ℕ) → sum 16 (bit mask) ≤ 16
bits-le mask = omega (arith, sum_mono 16 (bit mask) (λ j. 1) (λ j l. omega (arith, bit-lt mask j)), sum-const 16 1)

pub cost-le : (w s : ℕ) → w ≤ 1000 → s ≤ 16 → w * (s - 1) ≤ 16000
cost-le w s lw ls = let d : s - 1 ≤ 15 = omega arith in omega (arith, mul-le-mul_left w d)

pub metric-le : (visited net_weights : List ℕ) (e m : ℕ) → e ≤ m → Measurable visited net_weights m → metric_by visited net_weights e ≤ e * 16000
metric-le visited net_weights e m l q = omega (arith, sum_mono e (λ i. get_or net_weights i 0 * (sum 16 (bit (get_or visited i 0)) - 1)) (λ i. 16000) (λ i li. cost-le (get_or net_weights i 0) (sum 16 (bit (get_or visited i 0))) (q.light i (omega arith)) (bits-le (get_or visited i 0))), sum-const e 16000)

pub cost-none : (w s : ℕ) → s < 1 → 0 ≡ w * (s - 1)
cost-none w s l = let z : s - 1 ≡ 0 = omega arith in sym (ap (λ (x : ℕ). w * x) z ∙ mul-zero w)
