-- What the loader promises of an accepted catalogue, a sale's or one of a hall's, is what opening needs: the tables of a catalogue before any call. Rests on
-- loader's Tables, on opening's Opening and on guarantees' laws of catalogues. Assumes nothing.
use Rattle.std.specs.Prelude.{ℕ, suc, ◌+◌, ◌*◌, ◌-◌, ◌/◌, ◌%◌, ◌<◌, ◌≤◌, ◌≡◌, refl, ◌⊎◌, List, [], ltb, length, get_or, take, ℤ}
use Rattle.std.proofs.Math.Decide.{dec_lt}
use Rattle.std.proofs.Common.{add-one, arith, sym, ap, ap₂, ◌∙◌, inl, inr, get_or-take, ext_get_or, length-take-le}
use Rattle.laws.specs.Choice.{one}
use Rattle.laws.specs.Fold.{all-get}
use Rattle.laws.specs.Sum.{sum_to, sum_to-suc, sum_to-prefix}
use Rattle.laws.specs.Occurrence.{occ, Distinct}
use Rattle.model.specs.Catalogue.{Limits, Net, Hypergraph, vertices, fixed_entry, loaded, drafted}
use Rattle.model.specs.Measure.{size}
use Rattle.model.specs.Memory.{Filled, no_net, net, all_pins, first_place}
use Rattle.model.specs.Lent.{Lists}
use Rattle.guarantees.specs.Clumps.{Within}
use Rattle.guarantees.specs.Splits.{above-none, pin-none}
use Rattle.guarantees.specs.Ranges.{Few, Ranges}
use Rattle.guarantees.specs.Stretches.{size-fresh, stretch-le, marks-le}
use Rattle.incidence.specs.Word.{bit-of-zero}
use Rattle.incidence.specs.On.{on-is}
use Rattle.fixed.specs.Starting.{FixedIs, FixedMarked}
use Rattle.laws.specs.Rising.{Rising}
use Rattle.pins.specs.Stack.{loaded_pin}
use Rattle.levels.specs.Running.{net_at}
use Rattle.loader.specs.Tables.{LongLists, graph, Accepts}
use Rattle.loader.specs.declared.Sizes.{Sizes}
use Rattle.loader.proofs.Fill.{filled_in}
use Rattle.loader.proofs.Stretches.{nets-at}
use Rattle.opening.specs.Opening.{Opens}
use Rattle.renewal.specs.Nets.{first-place, Stored}

-- a net's stretch ends where a later net's begins, or before
stretch-before : (h : Hypergraph) (d e : ℕ) → d < e → first_place h (suc d) + length (net h (suc d)).pins ≤ first_place h (suc e)
unfolding first_place
stretch-before h d e l =
    let rest : suc d + (e - suc d) ≡ e = omega arith in
    omega (arith, ap (λ (n : ℕ). sum_to n count) (down d), ap (λ (n : ℕ). sum_to n count) (down e), sum_to-suc d count, sum_to-prefix (suc d) (e - suc d) count, ap (λ (n : ℕ). sum_to n count) rest)
  where
    count : ℕ → ℕ
    count d = length (net h d).pins

    down : (n : ℕ) → suc n - 1 ≡ n
    down n = omega arith

module _ {limits : Limits} {z : Sizes} {old new : Lists} {nw lo : List ℕ} (narrow : limits.block_limit ≤ 16) (short : limits.vertex_limit ≤ 1024) (few : Few limits)
    (long : LongLists limits.vertex_limit old) (told : Accepts limits z old new nw lo) where
  abbrev h : Hypergraph
  h = graph z new nw lo

  ranges : Ranges limits h
  ranges = told.ranges

  pub all-vertices : z.vertices ≡ vertices h
  all-vertices = sym told.vertices-are

  pub all-nets : z.nets ≡ length h.nets
  all-nets = sym told.nets-are

  few-nets : z.nets ≤ 1024
  few-nets = omega (arith, told.range.b-high, few.nets-few)

  net-number : (e : ℕ) → net h (suc e) ≡ net_at h e
  net-number e = let q : suc e - 1 ≡ e = omega arith in ap (λ (i : ℕ). get_or h.nets i no_net) q

  -- ---- the entries in use
  net-entry : {value : ℕ → ℕ} {before now : List ℕ} → Filled 0 (λ i. ltb i (length h.nets)) value before now → 1024 ≤ length before → (e : ℕ) → e < z.nets → get_or now e 0 ≡ value e
  net-entry {value} {before} {now} f fits e le = filled_in (length h.nets) value before now f e (omega (arith, all-nets)) (omega (arith, few-nets))

  first-at : (e : ℕ) → e < z.nets → get_or new.firsts e 0 ≡ first_place h (suc e)
  first-at = net-entry told.started.firsts long.firsts

  loaded_at : (e : ℕ) → e < z.nets → get_or new.loaded_sizes e 0 ≡ length (net h (suc e)).pins
  loaded_at = net-entry told.started.loaded_sizes long.loaded_sizes

  present-at : (e : ℕ) → e < z.nets → get_or new.present_sizes e 0 ≡ size h [] (net h (suc e))
  present-at = net-entry told.started.present_sizes long.present_sizes

  weight-at : (e : ℕ) → e < z.nets → get_or nw e 0 ≡ (net_at h e).weight
  weight-at e le = sym (ap (λ (n : Net). n.weight) (nets-at nw new.firsts new.loaded_sizes new.loaded_pins z.nets e le))

  sizes-same : (e : ℕ) → e < z.nets → get_or new.present_sizes e 0 ≡ get_or new.loaded_sizes e 0
  sizes-same e le =
      present-at e le
      ∙ ap (size h []) (net-number e)
      ∙ size-fresh h (net_at h e) (all-get h.nets (Within (vertices h)) no_net ranges.loaded.nets-in e (omega (arith, all-nets))) (all-get h.nets (λ n. Distinct n.pins 0 (length n.pins)) no_net ranges.loaded.nets-distinct e (omega (arith, all-nets)))
      ∙ sym (loaded_at e le ∙ ap (λ (n : Net). length n.pins) (net-number e))

  listed_at : (e : ℕ) → e < z.nets → (x : ℕ) → occ new.present_pins (get_or new.firsts e 0) (get_or new.present_sizes e 0) x ≡ one (loaded_pin (net_at h e) x)
  listed_at e le x =
      ap₂ (λ (f s : ℕ). occ new.present_pins f s x) (first-at e le) (present-at e le)
      ∙ told.started.present_pins.sets (suc e) x (omega arith) (omega (arith, all-nets))
      ∙ ap one (pin-none (net h (suc e)) x ∙ ap (λ (n : Net). loaded_pin n x) (net-number e))

  rising-at : (e : ℕ) → e < z.nets → Rising new.present_pins (get_or new.firsts e 0) (get_or new.present_sizes e 0)
  rising-at e le = rw (first-at e le, present-at e le) (λ i j ij jn. told.started.present_pins.rising (suc e) i j (omega arith) (omega (arith, all-nets)) ij jn)

  apart-at : (d e : ℕ) → d < z.nets → e < z.nets → d < e → get_or new.firsts d 0 + get_or new.loaded_sizes d 0 ≤ get_or new.firsts e 0
  apart-at d e ld le lt = omega (arith, first-at d ld, loaded_at d ld, first-at e le, stretch-before h d e lt)

  -- the bitset is blank, and the tables are as long as document 01 wants
  pub opens : {bits counts visited : List ℕ} {gains : List ℤ} → 16384 ≤ length counts → 1024 ≤ length visited → 16 * limits.vertex_limit ≤ length gains → length bits ≡ 16384 → ((i : ℕ) → get_or bits i 0 ≡ 0)
      → Opens h new.present_pins new.blocks new.firsts new.present_sizes new.loaded_sizes new.weights nw bits counts visited gains z.vertices z.nets z.blocks
  opens {bits} counts-long visited-long gains-long bits-len blank = record {
    fit = record { limits = limits; narrow = narrow; short = short; ranges = ranges };
    made = record { listed = listed_at; rising = rising-at; all-vertices = all-vertices; all-nets = all-nets; all_blocks = refl; weighs = weight-at; sits = sits };
    room = record {
      firsts-fit = omega (arith, few-nets, long.firsts, told.started.firsts.as_long);
      sizes-fit = omega (arith, few-nets, long.present_sizes, told.started.present_sizes.as_long);
      loaded-fit = omega (arith, few-nets, long.loaded_sizes, told.started.loaded_sizes.as_long);
      bits_fit = omega (arith, told.range.l-high);
      few-nets = few-nets;
      few-vertices = omega (arith, told.range.l-high);
      pins-fit = λ e le. omega (
        arith,
        first-at e le,
        loaded_at e le,
        stretch-le h (suc e) (omega arith) (omega (arith, all-nets)),
        marks-le limits h ranges,
        long.present_pins,
        told.started.present_pins.as_long,
      );
      apart = λ d e ld le ne. apart d e ld le ne (dec_lt d e);
    };
    same = sizes-same;
    bare = λ x e _ _. on-is bits x e ∙ bit-of-zero (get_or bits (16 * x + e / 64) 0) (e % 64) (blank (16 * x + e / 64));
    weighs = weighs;
    frame = record {
      counts-fit = omega (arith, few-nets);
      masks-fit = omega (arith, few-nets);
      gains-fit = omega (arith, told.range.l-high);
      weights-fit = omega (arith, few-nets, told.costs);
      few = omega (arith, told.range.k-high);
      few-nets = few-nets;
      few-vertices = omega (arith, told.range.l-high);
      weight = λ e le. omega (arith, weight-at e le, (all-get h.nets _ no_net ranges.loaded.net-weights e (omega (arith, all-nets))).1);
    };
    blocks-fit = omega (arith, told.range.l-high, long.blocks, told.started.blocks.as_long);
    weights-fit = omega (arith, told.range.l-high, long.weights, told.started.weights.as_long);
  }
    where
      down : (y : ℕ) → y + 1 - 1 ≡ y
      down y = omega arith

      sits : (y : ℕ) → y < z.vertices → get_or new.blocks y 0 ≡ drafted h (y + 1)
      sits y ly = sym (ap (λ (i : ℕ). get_or h.draft i 0) (down y) ∙ get_or-take z.vertices new.blocks y 0 ly)

      weighs : (y : ℕ) → y < z.vertices → get_or new.weights y 0 ≡ loaded h (y + 1)
      weighs y ly = sym (ap (λ (i : ℕ). get_or h.weights i 0) (down y) ∙ get_or-take z.vertices new.weights y 0 ly)

      apart : (d e : ℕ) → d < z.nets → e < z.nets → (d ≡ e → ⊥) → Dec (d < e) → (get_or new.firsts d 0 + get_or new.loaded_sizes d 0 ≤ get_or new.firsts e 0) ⊎ (get_or new.firsts e 0 + get_or new.loaded_sizes e 0 ≤ get_or new.firsts d 0)
      apart d e ld le ne (yes lt) = inl (apart-at d e ld le lt)
      apart d e ld le ne (no nl) = inr (apart-at e d le ld (omega (arith, ne, nl)))

  -- no vertex has one above it
  pub none_above : (z.vertices ≤ length new.aboves) × ((y : ℕ) → y < z.vertices → get_or new.aboves y 0 ≡ 0)
  none_above = (
    omega (arith, told.range.l-high, long.aboves, told.started.aboves.as_long),
    λ y ly. filled_in (vertices h) _ old.aboves new.aboves told.started.aboves y (omega (arith, all-vertices)) (omega (arith, told.range.l-high, long.aboves)) ∙ above-none (suc y),
  )

  -- the loaded marks stand buyer by buyer without gaps
  pub stored : Stored h.nets new.loaded_pins new.firsts new.loaded_sizes
  stored = record {
    pins-are = ext_get_or 0 (take marks new.loaded_pins) (all_pins h.nets) long-enough (λ i l. mark i (omega (arith, long-enough)));
    first-is = λ e l. first-at e (omega (arith, all-nets)) ∙ first-place h e (omega arith);
    size_is = λ e l. loaded_at e (omega (arith, all-nets)) ∙ ap (λ (n : Net). length n.pins) (net-number e);
    firsts-fit = omega (arith, all-nets, few-nets, long.firsts, told.started.firsts.as_long);
    sizes-fit = omega (arith, all-nets, few-nets, long.loaded_sizes, told.started.loaded_sizes.as_long);
  }
    where
      marks : ℕ
      marks = length (all_pins h.nets)

      in_table : length (all_pins h.nets) ≤ length old.loaded_pins
      in_table = omega (arith, marks-le limits h ranges, long.loaded_pins)

      long-enough : length (take marks new.loaded_pins) ≡ length (all_pins h.nets)
      long-enough = length-take-le marks new.loaded_pins (omega (arith, in_table, told.started.loaded_pins.as_long))

      mark : (i : ℕ) → i < length (all_pins h.nets) → get_or (take marks new.loaded_pins) i 0 ≡ get_or (all_pins h.nets) i 0
      mark i l = get_or-take marks new.loaded_pins i 0 l ∙ filled_in (length (all_pins h.nets)) (λ i. get_or (all_pins h.nets) i 0) old.loaded_pins new.loaded_pins told.started.loaded_pins i l (omega (arith, in_table))

  pub fixed-at : (x : ℕ) → x < z.vertices → get_or new.fixed x 0 ≡ fixed_entry h (x + 1)
  fixed-at x l = filled_in (vertices h) (λ i. fixed_entry h (suc i)) old.fixed new.fixed told.started.fixed x (omega (arith, all-vertices)) (omega (arith, told.range.l-high, long.fixed)) ∙ sym (ap (fixed_entry h) (add-one x))

  -- the column of who is fixed: its marks are those of the catalogue with no contraction
  pub fixed-long : (z.vertices ≤ 1024) × (z.vertices ≤ length new.fixed)
  fixed-long = (omega (arith, told.range.l-high), omega (arith, told.range.l-high, long.fixed, told.started.fixed.as_long))

  pub fixed-marked : {marks : List ℕ} → FixedMarked new.fixed z.vertices marks → FixedIs marks h []
  fixed-marked f = f.is h (sym all-vertices) fixed-at
