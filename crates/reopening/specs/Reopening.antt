-- The tables of a sale made anew from the loaded pins: the present pins are the loaded ones, each net's in order, so are the sizes, the bitset is blank, and
-- what `open` needs holds. Rests on renewal, on pins's Sorting and on opening. Assumes nothing.
use Rattle.std.specs.Prelude.{ℕ, ◌+◌, ◌*◌, ◌/◌, ◌%◌, ◌<◌, ◌≤◌, ◌≡◌, ◌⊎◌, List, [], length, get_or, drop, ℤ}
use Rattle.std.proofs.Math.Decide.{dec_lt}
use Rattle.std.proofs.Common.{zero-add, arith, sym, ap₂, ◌∙◌, inl, inr, get_or-take, get_or-drop}
use Rattle.std.proofs.Math.Path.{ap}
use Rattle.laws.specs.Choice.{one, one-le}
use Rattle.laws.specs.Fold.{all-get}
use Rattle.laws.specs.Sum.{sum-ext}
use Rattle.laws.specs.Occurrence.{occ, Distinct, same, distinct-any, occ-distinct}
use Rattle.model.specs.Catalogue.{Hypergraph, vertices, loaded, drafted}
use Rattle.model.specs.Memory.{no_net, all_pins}
use Rattle.incidence.specs.Word.{bit-of-zero}
use Rattle.incidence.specs.On.{on, on-is}
use Rattle.pins.specs.Stack.{loaded_pin}
use Rattle.laws.specs.Rising.{Rising}
use Rattle.pins.specs.Sorting.{start, SortedTo, SortableNets}
use Rattle.connectivity.specs.Set.{Frame}
use Rattle.levels.specs.Running.{net_at}
use Rattle.operations.specs.Tables.{tables, Fit, Sound}
use Rattle.first_tables.specs.Prepare.{Prepared}
use Rattle.opening.specs.Opening.{Opens, CanOpen, Opened}
use Rattle.renewal.specs.Nets.{first_of, first-all, first_more, first-grows, Stored, pins-fit, stretch-fit, stretch-is}
use Rattle.renewal.specs.Columns.{Wrote}
use Rattle.renewal.specs.Held.{sizes-sum}

-- the first 8,192 loaded pins, then each of m nets' put in order
pub record InOrder (loaded_pins loaded_sizes : List ℕ) (m : ℕ) (pins pins' : List ℕ) : Type 0 where
  pub copy : List ℕ
  pub copied : Wrote 0 8192 (λ i. get_or loaded_pins i 0) pins copy
  pub sorted : SortedTo copy pins' loaded_sizes m
  pub len : length pins' ≡ length pins

pub in_order : {loaded_pins loaded_sizes pins copy pins' : List ℕ} {m : ℕ} → Wrote 0 8192 (λ i. get_or loaded_pins i 0) pins copy → SortedTo copy pins' loaded_sizes m → InOrder loaded_pins loaded_sizes m pins pins'
in_order {copy = copy} c s = record { copy = copy; copied = c; sorted = s; len = s.len ∙ c.len }

-- the tables from which a sale is made anew: the loaded pins of a catalogue's nets, and its draft
pub record Reopens (h : Hypergraph) (loaded_pins loaded_sizes pins sizes blocks firsts weights net_weights bits counts visited : List ℕ) (gains : List ℤ) (n m k total : ℕ) : Type 0 where
  pub fit : Fit h
  pub stored : Stored h.nets loaded_pins firsts loaded_sizes
  pub total-is : total ≡ length (all_pins h.nets)
  pub all-vertices : n ≡ vertices h
  pub all-nets : m ≡ length h.nets
  pub all_blocks : k ≡ h.blocks
  pub costs : (e : ℕ) → e < m → get_or net_weights e 0 ≡ (net_at h e).weight
  pub sits : (y : ℕ) → y < n → get_or blocks y 0 ≡ drafted h (y + 1)
  pub weighs : (y : ℕ) → y < n → get_or weights y 0 ≡ loaded h (y + 1)
  pub frame : Frame net_weights counts visited gains n m k
  pub few : total ≤ 8192
  pub loaded-long : 8192 ≤ length loaded_pins
  pub pins-long : 8192 ≤ length pins
  pub sizes-long : m ≤ length sizes
  pub bits-long : 16 * n ≤ length bits
  pub blocks-fit : n ≤ length blocks
  pub weights-fit : n ≤ length weights

module _ {h : Hypergraph} {loaded_pins loaded_sizes pins sizes blocks firsts weights net_weights bits counts visited : List ℕ} {gains : List ℤ} {n m k total : ℕ}
    (o : Reopens h loaded_pins loaded_sizes pins sizes blocks firsts weights net_weights bits counts visited gains n m k total) where
  -- the copies are as long as what is copied
  pub copies-fit : m ≤ length loaded_sizes
  copies-fit = omega (arith, o.all-nets, o.stored.sizes-fit)

  inside : (e : ℕ) → e < m → e < length h.nets
  inside e l = omega (arith, o.all-nets)

  first-at : (e : ℕ) → e < m → get_or firsts e 0 ≡ first_of h.nets e
  first-at e l = o.stored.first-is e (inside e l)

  size-at : (e : ℕ) → e < m → get_or loaded_sizes e 0 ≡ length (net_at h e).pins
  size-at e l = o.stored.size_is e (inside e l)

  before_at : (d e : ℕ) → d < m → e < m → d < e → get_or firsts d 0 + get_or loaded_sizes d 0 ≤ get_or firsts e 0
  before_at d e ld le lt = omega (arith, first-at d ld, size-at d ld, first-at e le, first_more h.nets d (inside d ld), first-grows h.nets (d + 1) e (omega arith) (omega (arith, o.all-nets)))

  -- a net begins behind the pins of those before it, and all of them are the total
  start-at : (e : ℕ) → e < m → start loaded_sizes e ≡ first_of h.nets e
  start-at e l = sizes-sum o.stored e (omega (arith, o.all-nets))

  pub start-all : start loaded_sizes m ≡ total
  start-all = sizes-sum o.stored m (omega (arith, o.all-nets)) ∙ first-all h.nets m (omega (arith, o.all-nets)) ∙ sym o.total-is

  -- ---- what is copied, before it is put in order
  module _ {copy : List ℕ} (c : Wrote 0 8192 (λ i. get_or loaded_pins i 0) pins copy) where
    -- a place of a net's stretch
    pin_at : (e i : ℕ) → e < m → i < length (net_at h e).pins → get_or copy (start loaded_sizes e + i) 0 ≡ get_or (net_at h e).pins (0 + i) 0
    pin_at e i l u =
        c.told (start loaded_sizes e + i) (omega arith) (omega (arith, start-at e l, stretch-fit o.stored e (inside e l), o.total-is, o.few))
        ∙ ap (λ (f : ℕ). get_or loaded_pins (f + i) 0) (start-at e l)
        ∙ sym (get_or-drop (first_of h.nets e) loaded_pins i 0)
        ∙ sym (get_or-take (length (net_at h e).pins) (drop (first_of h.nets e) loaded_pins) i 0 u)
        ∙ ap (λ (r : List ℕ). get_or r i 0) (stretch-is o.stored e (inside e l))
        ∙ ap (λ (j : ℕ). get_or (net_at h e).pins j 0) (sym (zero-add i))

    often-at : (e : ℕ) → e < m → (x : ℕ) → occ copy (start loaded_sizes e) (get_or loaded_sizes e 0) x ≡ one (loaded_pin (net_at h e) x)
    unfolding occ
    often-at e l x =
        ap (λ (k : ℕ). occ copy (start loaded_sizes e) k x) (size-at e l)
        ∙ sum-ext (length (net_at h e).pins) _ (λ i. same (get_or (net_at h e).pins (0 + i) 0) x) (λ i u. ap (λ (y : ℕ). same y x) (pin_at e i l u))
        ∙ distinct-any (net_at h e).pins x (all-get h.nets _ no_net o.fit.ranges.loaded.nets-distinct e (inside e l))

    -- each net's pins are vertices, each once
    pub pins-distinct : (e : ℕ) → e < m → Distinct copy (start loaded_sizes e) (get_or loaded_sizes e 0)
    pins-distinct e l = occ-distinct copy (start loaded_sizes e) (get_or loaded_sizes e 0) (λ x. omega (arith, often-at e l x, one-le (loaded_pin (net_at h e) x)))

    pub pins-within : (e i : ℕ) → e < m → i < get_or loaded_sizes e 0 → (1 ≤ get_or copy (start loaded_sizes e + i) 0) × (get_or copy (start loaded_sizes e + i) 0 ≤ 1024)
    pins-within e i l u =
        let v : i < length (net_at h e).pins = omega (arith, size-at e l) in
        let within = all-get h.nets _ no_net o.fit.ranges.loaded.nets-in e (inside e l) in
        let r = all-get (net_at h e).pins _ 0 within i v in
        let q : get_or copy (start loaded_sizes e + i) 0 ≡ get_or (net_at h e).pins i 0 = pin_at e i l v ∙ ap (λ (j : ℕ). get_or (net_at h e).pins j 0) (zero-add i) in
        omega (arith, q, r.0, r.1, o.all-vertices, o.frame.few-vertices)

  -- ---- behind the last pin
  module _ {pins' : List ℕ} (p : InOrder loaded_pins loaded_sizes m pins pins') where
    pub pins-behind : (i : ℕ) → total ≤ i → i < 8192 → get_or pins' i 0 ≡ get_or loaded_pins i 0
    pins-behind i l u = p.sorted.behind i (omega (arith, start-all)) ∙ p.copied.told i (omega arith) u

    pub pins-past : (i : ℕ) → 8192 ≤ i → get_or pins' i 0 ≡ get_or pins i 0
    pins-past i l = p.sorted.behind i (omega (arith, start-all, o.few)) ∙ p.copied.behind i l

  module _ {pins' sizes' bits' : List ℕ} (p : InOrder loaded_pins loaded_sizes m pins pins') (s : Wrote 0 m (λ i. get_or loaded_sizes i 0) sizes sizes') (b : Wrote 0 (16 * n) (λ _. 0) bits bits') where
    same_size : (e : ℕ) → e < m → get_or sizes' e 0 ≡ get_or loaded_sizes e 0
    same_size e l = s.told e (omega arith) l

    begins : (e : ℕ) → e < m → get_or firsts e 0 ≡ start loaded_sizes e
    begins e l = first-at e l ∙ sym (start-at e l)

    listed : (e : ℕ) → e < m → (x : ℕ) → occ pins' (get_or firsts e 0) (get_or sizes' e 0) x ≡ one (loaded_pin (net_at h e) x)
    listed e l x =
        ap₂ (λ (f k : ℕ). occ pins' f k x) (begins e l) (same_size e l)
        ∙ p.sorted.often e x l
        ∙ often-at p.copied e l x

    rising : (e : ℕ) → e < m → Rising pins' (get_or firsts e 0) (get_or sizes' e 0)
    rising e l = rw (begins e l, same_size e l) (p.sorted.rising e l (pins-distinct p.copied e l))

    bare : (x e : ℕ) → x < n → e < m → on bits' x e ≡ 0
    bare x e lx le = on-is bits' x e ∙ bit-of-zero (get_or bits' (16 * x + e / 64) 0) (e % 64) (b.told (16 * x + e / 64) (omega arith) (omega (arith, o.frame.few-nets)))

    pub can-open : Opens h pins' blocks firsts sizes' loaded_sizes weights net_weights bits' counts visited gains n m k
    can-open = record {
      fit = o.fit;
      made = record { listed = listed; rising = rising; all-vertices = o.all-vertices; all-nets = o.all-nets; all_blocks = o.all_blocks; weighs = o.costs; sits = o.sits };
      room = record {
        firsts-fit = omega (arith, o.all-nets, o.stored.firsts-fit);
        sizes-fit = omega (arith, o.sizes-long, s.len);
        loaded-fit = omega (arith, o.all-nets, o.stored.sizes-fit);
        bits_fit = omega (arith, o.bits-long, b.len);
        few-nets = o.frame.few-nets;
        few-vertices = o.frame.few-vertices;
        pins-fit = λ e l. omega (arith, first-at e l, size-at e l, stretch-fit o.stored e (inside e l), o.total-is, o.few, o.pins-long, p.len);
        apart = λ d e ld le ne. apart d e ld le ne (dec_lt d e);
      };
      same = same_size;
      bare = bare;
      weighs = o.weighs;
      frame = o.frame;
      blocks-fit = o.blocks-fit;
      weights-fit = o.weights-fit;
    }
      where
        apart : (d e : ℕ) → d < m → e < m → (d ≡ e → ⊥) → Dec (d < e) → (get_or firsts d 0 + get_or loaded_sizes d 0 ≤ get_or firsts e 0) ⊎ (get_or firsts e 0 + get_or loaded_sizes e 0 ≤ get_or firsts d 0)
        apart d e ld le ne (yes lt) = inl (before_at d e ld le lt)
        apart d e ld le ne (no nl) = inr (before_at e d le ld (omega (arith, ne, nl)))

-- what `reopen` needs: the tables of some catalogue
pub record CanReopen (loaded_pins loaded_sizes pins sizes blocks firsts weights net_weights bits counts visited : List ℕ) (gains : List ℤ) (loads : List ℕ) (n m k total : ℕ) : Type 0 where
  pub h : Hypergraph
  pub reopens : Reopens h loaded_pins loaded_sizes pins sizes blocks firsts weights net_weights bits counts visited gains n m k total
  pub loads-len : length loads ≡ 16

-- what it does: whatever catalogue the tables held, they are sound for a fresh machine over it; the present pins are the loaded ones in order, up to
-- the 8,192nd place, and what is not in use is kept
pub record Reopened (loaded_pins loaded_sizes pins pins' sizes sizes' blocks firsts weights net_weights : List ℕ) (n m k total : ℕ) (bits bits' counts counts' visited visited' : List ℕ) (gains gains' : List ℤ) (loads : List ℕ) (metric : ℕ) : Type 0 where
  pub ordered : InOrder loaded_pins loaded_sizes m pins pins'
  pub copied-sizes : Wrote 0 m (λ i. get_or loaded_sizes i 0) sizes sizes'
  pub prepared : Prepared net_weights pins' blocks firsts sizes' n m k bits bits' counts counts' visited visited' gains gains'
  pub sound : (h : Hypergraph) (aboves : List ℕ) → Reopens h loaded_pins loaded_sizes pins sizes blocks firsts weights net_weights bits counts visited gains n m k total → n ≤ length aboves →
      ((y : ℕ) → y < n → get_or aboves y 0 ≡ 0) → Sound h [] (drafted h) (tables counts' visited' gains' pins' sizes' bits' blocks weights aboves loads net_weights firsts loaded_sizes n m k metric)

-- a blank bitset and one of another past are the same to what was prepared
kept-bits : {net_weights pins blocks firsts sizes bits bits₁ bits' counts counts' visited visited' : List ℕ} {gains gains' : List ℤ} {n m k : ℕ} → length bits₁ ≡ length bits →
    Prepared net_weights pins blocks firsts sizes n m k bits₁ bits' counts counts' visited visited' gains gains' → Prepared net_weights pins blocks firsts sizes n m k bits bits' counts counts' visited visited' gains gains'
kept-bits q t = record {
  world = t.world;
  marked = t.marked;
  bits-len = t.bits-len ∙ q;
  counts-len = t.counts-len;
  counts_past = t.counts_past;
  counts-over = t.counts-over;
  masks-len = t.masks-len;
  masks-past = t.masks-past;
  masks-over = t.masks-over;
  gains = t.gains;
}

pub reopened : {loaded_pins loaded_sizes pins pins' sizes sizes' blocks firsts weights net_weights : List ℕ} {n m k total : ℕ} {bits bits₁ bits' counts counts' visited visited' : List ℕ} {gains gains' : List ℤ} {loads : List ℕ} {metric : ℕ} →
    Wrote 0 (16 * n) (λ _. 0) bits bits₁ → InOrder loaded_pins loaded_sizes m pins pins' → Wrote 0 m (λ i. get_or loaded_sizes i 0) sizes sizes' →
    Opened pins' blocks firsts sizes' weights net_weights n m k bits₁ bits' counts counts' visited visited' gains gains' loads metric →
    Reopened loaded_pins loaded_sizes pins pins' sizes sizes' blocks firsts weights net_weights n m k total bits bits' counts counts' visited visited' gains gains' loads metric
reopened {loaded_sizes = loaded_sizes} b p s t = record {
  ordered = p;
  copied-sizes = s;
  prepared = kept-bits b.len t.prepared;
  sound = λ h aboves o fits none. t.sound h loaded_sizes aboves (can-open o p s b) fits none;
}

module _ {loaded_pins loaded_sizes pins sizes blocks firsts weights net_weights bits counts visited : List ℕ} {gains : List ℤ} {loads : List ℕ} {n m k total : ℕ}
    (o : CanReopen loaded_pins loaded_sizes pins sizes blocks firsts weights net_weights bits counts visited gains loads n m k total) where
  pub copies-ok : (8192 ≤ length loaded_pins) × (8192 ≤ length pins) × (m ≤ length loaded_sizes) × (m ≤ length sizes)
  copies-ok = omega (arith, o.reopens.loaded-long, copies-fit o.reopens, o.reopens.pins-long, o.reopens.sizes-long)

  pub sort-ok : {copy : List ℕ} → Wrote 0 8192 (λ i. get_or loaded_pins i 0) pins copy → (m ≤ length loaded_sizes) × ((start loaded_sizes m ≤ length copy) × SortableNets copy loaded_sizes m)
  sort-ok c = (
    copies-fit o.reopens,
    (
      omega (arith, start-all o.reopens, o.reopens.few, o.reopens.pins-long, c.len),
      λ y l. record { distinct = pins-distinct o.reopens c y l; inside = λ i u. pins-within o.reopens c y i l u },
    ),
  )

  pub open-ok : {pins' sizes' bits' : List ℕ} → Wrote 0 (16 * n) (λ _. 0) bits bits' → InOrder loaded_pins loaded_sizes m pins pins' → Wrote 0 m (λ i. get_or loaded_sizes i 0) sizes sizes' →
      CanOpen pins' blocks firsts sizes' weights net_weights bits' counts visited gains loads n m k
  open-ok b p s = record { h = o.h; loaded_sizes = loaded_sizes; opens = can-open o.reopens p s b; loads-len = o.loads-len }
