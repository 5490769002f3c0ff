-- From the engine's promise to what the functions read: lots, buyers, and the order of lots that every sheet is read from. Rests on Tables,
-- guarantees' Stretches and sheet_guarantees' Rows.
use Prim.Native.Nat.{ℕ, zero, suc, ◌+◌, ◌-◌, ◌*◌, ◌^◌, ◌<◌, ◌≤◌}
use native.Mathlib.Nat.{pow-suc, one-mul, zero-add}
use native.Mathlib.Omega.{arith}
use native.Mathlib.Numerals.{add-one}
use mathlib.Core.Path.{◌≡◌, refl, sym, ap, ◌∙◌, subst}
use mathlib.Core.Bool.{Bool, true, false, cond, ◌&&◌}
use mathlib.Core.List.{List, [], ◌∷◌, ◌++◌, append-nil}
use borrow.Author.Tests.{leb-true, lt-ltb, eqb-true, ne_eqb}
use lib.Count.{ones, ones_cat, ones-ones}
use lib.Dec.{eqb, leb, ltb}
use lib.ListN.{length, get_or, take, drop, length-drop, get_or-append}
use lib.Pow.{pow_pos, pow_mono}
use lib.Seq.{get_or-take, get_or-drop, get_or-append-add, length-take-le, ext_get_or, take_at}
use Rattle.laws.specs.Choice.{one, and_left, and_right}
use Rattle.laws.specs.Fold.{any_at, All, all-get, all_map}
use Rattle.laws.specs.Sum.{sum, sum_to, sum-front, sum-sum_to, sum_to-nil, sum_to-suc, count_to, fold_to-zero, fold_to-ext, fold_to-skip}
use Rattle.laws.specs.Bit.{bit, ones-bits}
use Rattle.model.specs.Catalogue.{Limits, Net, Hypergraph, vertices, in_sale}
use Rattle.model.specs.Measure.{Contraction, above, on_board, representative, pin_count, connectivity}
use Rattle.model.specs.Machine.{State}
use Rattle.model.specs.Sale.{Sale}
use Rattle.model.specs.Memory.{Tables, long_lists, long_tables, no_net, net, all_pins, first_place, block_entry, mask, Column, Holds}
use Rattle.model.specs.Sheets.{At, is_marked, stands_in, ats_in, ats}
use Rattle.guarantees.specs.Board.{board-is}
use Rattle.guarantees.specs.Calls.{Legal}
use Rattle.guarantees.specs.Climbs.{representative-on}
use Rattle.guarantees.specs.Clumps.{Within, representative-in, representative-sale}
use Rattle.guarantees.specs.Reached.{Valid}
use Rattle.guarantees.specs.Splits.{AllInside}
use Rattle.guarantees.specs.Stretches.{stretch-le, marks-le}
use Rattle.sheet_guarantees.specs.Rows.{kept}
use Rattle.text.specs.Output.{written}
use Rattle.fields.specs.Wrote.{Wrote}
use Rattle.sheet_rows.specs.Order.{Known, Apart, entry_of, lots_by, is_in, printed_of, by_in, by_apart, by_le, by-ext, printed-ext, printed-by}
use Rattle.sheet_rows.specs.Use.{InUse, column-in-use}
use Rattle.sheet_rows.specs.Tables.{seat, Lots, Seats, Buyers, Seated, Promised, Ended}

-- ---- lengths
-- the tables that sheets are read from
pub record Long (limits : Limits) (t : Tables) : Type 0 where
  pub blocks : limits.vertex_limit ≤ length t.blocks
  pub aboves : limits.vertex_limit ≤ length t.aboves
  pub pins : 8192 ≤ length t.loaded_pins
  pub firsts : 1024 ≤ length t.firsts
  pub sizes : 1024 ≤ length t.loaded_sizes
  pub visited : 1024 ≤ length t.visited

-- of nine tests the second, third, fifth and ninth; of five the first, third and fourth
of-nine : (a b c d e f g i j : Bool) → (a && b && c && d && e && f && g && i && j) ≡ true → (b ≡ true) × (c ≡ true) × (e ≡ true) × (j ≡ true)
of-nine a b c d e f g i j q =
    let r = and_left (a && b && c && d && e) f (and_left (a && b && c && d && e && f) g (and_left (a && b && c && d && e && f && g) i (and_left (a && b && c && d && e && f && g && i) j q))) in
    let l = and_left (a && b && c) d (and_left (a && b && c && d) e r) in
    (and_right a b (and_left (a && b) c l), and_right (a && b) c l, and_right (a && b && c && d) e r, and_right (a && b && c && d && e && f && g && i) j q)

of-five : (a b c d e : Bool) → (a && b && c && d && e) ≡ true → (a ≡ true) × (c ≡ true) × (d ≡ true)
of-five a b c d e q =
    let r = and_left (a && b && c && d) e q in
    let l = and_left (a && b && c) d r in
    (and_left a b (and_left (a && b) c l), and_right (a && b) c l, and_right (a && b && c) d r)

pub long-is : (limits : Limits) (t : Tables) → long_tables limits t ≡ true → Long limits t
unfolding long_tables long_lists
long-is limits t q =
    let n : ℕ = limits.vertex_limit in
    let r = of-nine (leb n (length t.weights)) (leb n (length t.blocks)) (leb n (length t.aboves)) (leb n (length t.fixed)) (long_lists t) (leb 16384 (length t.counts)) (leb (16 * n) (length t.gains)) (leb (16 * n) (length t.index)) (leb 1024 (length t.visited)) q in
    let l = of-five (leb 8192 (length t.loaded_pins)) (leb 8192 (length t.present_pins)) (leb 1024 (length t.firsts)) (leb 1024 (length t.loaded_sizes)) (leb 1024 (length t.present_sizes)) r.2 in
    record {
      blocks = leb-true n (length t.blocks) r.0;
      aboves = leb-true n (length t.aboves) r.1;
      pins = leb-true 8192 (length t.loaded_pins) l.0;
      firsts = leb-true 1024 (length t.firsts) l.1;
      sizes = leb-true 1024 (length t.loaded_sizes) l.2;
      visited = leb-true 1024 (length t.visited) r.3;
    }

column-at : (n : ℕ) (value : ℕ → ℕ) (old new : List ℕ) → Column n value old new → n ≤ length old → (y : ℕ) → y < n → get_or new y 0 ≡ value (y + 1)
column-at n value old new f l y u = f.entries y (omega arith) ∙ ap (λ (b : Bool). cond b (value (suc y)) (get_or old y 0)) (lt-ltb y n u) ∙ ap value (sym (add-one y))

-- ---- a set's size
module _ (p : ℕ → Bool) where
  abbrev mask_to : ℕ → ℕ
  mask_to k = sum_to k (λ b. cond (p b) (2 ^ (b - 1)) 0)

  mask-more : (k : ℕ) → mask_to (suc k) ≡ one (p (suc k)) * 2 ^ k + mask_to k
  mask-more k = sum_to-suc k (λ b. cond (p b) (2 ^ (b - 1)) 0) ∙ go (p (suc k))
    where
      down : suc k - 1 ≡ k
      down = omega arith

      go : (b : Bool) → mask_to k + cond b (2 ^ (suc k - 1)) 0 ≡ one b * 2 ^ k + mask_to k
      go true = omega (arith, ap (λ (x : ℕ). 2 ^ x) down, one-mul (2 ^ k))
      go false = omega arith

  mask-small : (k : ℕ) → mask_to k < 2 ^ k
  mask-small zero = omega (arith, sum_to-nil 0 (λ b. cond (p b) (2 ^ (b - 1)) 0) (λ i l u. absurd (omega arith)), pow_pos 0)
  mask-small (suc k) = go (mask-small k) (p (suc k)) (mask-more k)
    where
      go : mask_to k < 2 ^ k → (b : Bool) → mask_to (suc k) ≡ one b * 2 ^ k + mask_to k → mask_to (suc k) < 2 ^ suc k
      go l true e = omega (arith, e, pow-suc 2 k, one-mul (2 ^ k))
      go l false e = omega (arith, e, pow-suc 2 k)

  mask-ones : (k : ℕ) → ones (mask_to k) ≡ count_to k p
  mask-ones zero = ap ones (sum_to-nil 0 (λ b. cond (p b) (2 ^ (b - 1)) 0) (λ i l u. absurd (omega arith))) ∙ ones-ones 0 ∙ sym (sum_to-nil 0 (λ b. one (p b)) (λ i l u. absurd (omega arith)))
  mask-ones (suc k) = ap ones (mask-more k) ∙ ones_cat k (one (p (suc k))) (mask_to k) (mask-small k) ∙ go (mask-ones k) (p (suc k)) refl
    where
      go : ones (mask_to k) ≡ count_to k p → (b : Bool) → p (suc k) ≡ b → ones (one b) + ones (mask_to k) ≡ count_to (suc k) p
      go m true e = omega (arith, ones-ones 1, m, sum_to-suc k (λ b. one (p b)), ap one e)
      go m false e = omega (arith, ones-ones 0, m, sum_to-suc k (λ b. one (p b)), ap one e)

mask-counts : (h : Hypergraph) (cs : List Contraction) (block : ℕ → ℕ) (e : Net) → h.blocks ≤ 16 → sum 16 (bit (mask h cs block e)) ≡ connectivity h cs block e
unfolding mask connectivity
mask-counts h cs block e few =
    let p : ℕ → Bool = λ b. ltb 0 (pin_count h cs block e b) in
    sym (ones-bits (mask_to p h.blocks) (omega (arith, mask-small p h.blocks, pow_mono {i = h.blocks} {j = 16} few))) ∙ mask-ones p h.blocks

-- ---- a buyer's stretch
abbrev pins_at : List Net → ℕ → List ℕ
pins_at es d = (get_or es d no_net).pins

stretch-at : (es : List Net) (d j : ℕ) → d < length es → j < length (pins_at es d) → get_or (all_pins es) (sum d (λ i. length (pins_at es i)) + j) 0 ≡ get_or (pins_at es d) j 0
unfolding all_pins sum
stretch-at [] d j l u = absurd (omega arith)
stretch-at (e ∷ es) zero j l u = ap (λ (x : ℕ). get_or (e.pins ++ all_pins es) x 0) (zero-add j) ∙ get_or-append e.pins (all_pins es) 0 j u
stretch-at (e ∷ es) (suc d) j l u =
    let f : ℕ → ℕ = λ i. length (pins_at (e ∷ es) i) in
    let k : sum (suc d) f + j ≡ length e.pins + (sum d (λ i. length (pins_at es i)) + j) = omega (arith, sum-front d f) in
    ap (λ (x : ℕ). get_or (e.pins ++ all_pins es) x 0) k ∙ get_or-append-add e.pins (all_pins es) (sum d (λ i. length (pins_at es i)) + j) 0 ∙ stretch-at es d j (omega arith) u

first-is : (h : Hypergraph) (d : ℕ) → first_place h (d + 1) ≡ sum d (λ i. length (pins_at h.nets i))
unfolding first_place
first-is h d =
    let down : d + 1 - 1 ≡ d = omega arith in
    ap (λ (x : ℕ). sum_to x (λ i. length (net h i).pins)) down
    ∙ sym (sum-sum_to d (λ i. length (pins_at h.nets i)) (λ i. length (net h i).pins) (λ i _. let e : i ≡ suc i - 1 = omega arith in ap (λ (x : ℕ). length (pins_at h.nets x)) e))

-- ---- the lot above
above_in : (h : Hypergraph) (cs : List Contraction) → AllInside h cs → (v : ℕ) → above cs v ≤ vertices h
unfolding above
above_in h [] a v = omega arith
above_in h (c ∷ cs) a v = go (eqb c.gone v) (above_in h cs a.1 v)
  where
    go : (b : Bool) → above cs v ≤ vertices h → cond b c.into (above cs v) ≤ vertices h
    go true l = a.0.1
    go false l = l

-- ---- a sheet from the order of lots
module _ (h : Hypergraph) (s : State) (k : Legal h s) (e : Net) (w : Within (vertices h) e) (there : All e.pins (λ x. in_sale h x ≡ true)) where
  -- a marked lot has a stand on the board
  marked-board : (v : ℕ) → is_marked e v ≡ true → (1 ≤ representative s.stack v) × (representative s.stack v ≤ vertices h) × (on_board h s.stack (representative s.stack v) ≡ true)
  marked-board v q =
      let i = any_at e.pins 0 (λ x. eqb x v) q in
      let same : get_or e.pins i.0 0 ≡ v = eqb-true _ _ i.2 in
      let g = all-get e.pins _ 0 w i.0 i.1 in
      let r = representative-in h s.stack k.sound k.inside v (omega (arith, same, g.0)) (omega (arith, same, g.1)) in
      let sold : in_sale h v ≡ true = ap (in_sale h) (sym same) ∙ all-get e.pins _ 0 there i.0 i.1 in
      (r.0, r.1, board-is h s.stack (representative s.stack v) (representative-on s.stack k.sound v) (representative-sale h s.stack k.sound k.inside v sold))

  marked-seat : (v : ℕ) → is_marked e v ≡ true → seat h s v ≡ stands_in h s v
  unfolding seat block_entry
  marked-seat v q = ap (λ (b : Bool). cond b (stands_in h s v) 0) (marked-board v q).2

  marked-high : (v : ℕ) → is_marked e v ≡ true → stands_in h s v ≤ h.blocks
  marked-high v q = let r = marked-board v q in ((k.placed (representative s.stack v) r.0 r.1).board r.2).1

  passes_same : (t v : ℕ) → (is_marked e v && eqb (seat h s v) t) ≡ (is_marked e v && eqb (stands_in h s v) t)
  passes_same t v = go (is_marked e v) refl
    where
      go : (b : Bool) → is_marked e v ≡ b → (b && eqb (seat h s v) t) ≡ (b && eqb (stands_in h s v) t)
      go true q = ap (λ (x : ℕ). eqb x t) (marked-seat v q)
      go false q = refl

  passes_none : (t v : ℕ) → h.blocks < t → (is_marked e v && eqb (stands_in h s v) t) ≡ false
  passes_none t v l = go (is_marked e v) refl
    where
      go : (b : Bool) → is_marked e v ≡ b → (b && eqb (stands_in h s v) t) ≡ false
      go true q = ne_eqb (stands_in h s v) t (λ x. omega (arith, marked-high v q))
      go false q = refl

  abbrev put : ℕ → List At → ℕ → Bool → List At
  put t out v b = cond b (out ++ (record { session = t; lot = v } ∷ [])) out

  ats-in : (t : ℕ) → kept (λ v. is_marked e v && eqb (seat h s v) t) (λ v. record { session = t; lot = v }) (vertices h) ≡ ats_in h s e t
  unfolding ats_in
  ats-in t = fold_to-ext (vertices h) _ _ [] (λ out v _ _. ap (put t out v) (passes_same t v))

  ats-past : (t : ℕ) → h.blocks < t → ats_in h s e t ≡ []
  unfolding ats_in
  ats-past t l = fold_to-skip 0 (vertices h) (λ out v. cond (is_marked e v && eqb (stands_in h s v) t) (out ++ (record { session = t; lot = v } ∷ [])) out) [] (omega arith) (λ out v _ _. ap (put t out v) (passes_none t v l))
      ∙ fold_to-zero (λ out v. cond (is_marked e v && eqb (stands_in h s v) t) (out ++ (record { session = t; lot = v } ∷ [])) out) []

  ats-from : h.blocks ≤ 16 → printed_of (seat h s) (is_in e.pins) (lots_by (seat h s) (vertices h) 16) ≡ ats h s e
  unfolding ats
  ats-from few =
      printed-by (seat h s) (is_in e.pins) (vertices h) 16
      ∙ fold_to-ext 16 _ (λ out t. out ++ ats_in h s e t) [] (λ out t _ _. ap (λ (l : List At). out ++ l) (ats-in t))
      ∙ fold_to-skip h.blocks 16 (λ out t. out ++ ats_in h s e t) [] few (λ out t l _. ap (λ (x : List At). out ++ x) (ats-past t l) ∙ append-nil out)

-- ---- the promise
module _ {a : Sale} {blocks aboves pins firsts sizes visited : List ℕ} {n m : ℕ} (p : Promised a blocks aboves pins firsts sizes visited n m) where
  abbrev h : Hypergraph
  h = a.graph

  abbrev s : State
  s = a.state

  abbrev legal : Legal h s
  legal = p.valid.held.legal

  long : Long p.limits p.old
  long = long-is p.limits p.old p.long

  few-lots : vertices h ≤ p.limits.vertex_limit
  few-lots = p.valid.ranges.vertices-high

  few-sessions : h.blocks ≤ 16
  few-sessions = omega (arith, p.valid.ranges.loaded.blocks-high, p.narrow)

  few-buyers : length h.nets ≤ 1024
  few-buyers = p.valid.ranges.nets-high

  above-is : (y : ℕ) → y < n → get_or aboves y 0 ≡ above s.stack (y + 1)
  above-is y l = ap (λ (t : List ℕ). get_or t y 0) (sym p.aboves-are) ∙ column-at (vertices h) (above s.stack) p.old.aboves p.new.aboves p.holds.aboves (omega (arith, few-lots, long.aboves)) y (omega (arith, p.lots-are))

  pub promised-lots : Lots h s blocks aboves n
  promised-lots = record {
    all = p.lots-are;
    few = omega (arith, p.lots-are, few-lots, p.few);
    sound = legal.sound;
    inside = legal.inside;
    hangs = record {
      fits = omega (arith, p.lots-are, few-lots, long.aboves, p.holds.aboves.as_long, ap length p.aboves-are);
      is = above-is;
      known = λ y l. omega (arith, above-is y l, above_in h s.stack legal.inside (y + 1), p.lots-are);
    };
    fits = omega (arith, p.lots-are, few-lots, long.blocks, p.holds.blocks.as_long, ap length p.blocks-are);
    sits = λ y l.
        ap (λ (t : List ℕ). get_or t y 0) (sym p.blocks-are)
        ∙ column-at (vertices h) (block_entry h s.stack s.block) p.old.blocks p.new.blocks p.holds.blocks (omega (arith, few-lots, long.blocks)) y (omega (arith, p.lots-are));
  }

  first-at : (e : ℕ) → e < m → get_or firsts e 0 ≡ first_place h (e + 1)
  first-at e l = ap (λ (t : List ℕ). get_or t e 0) (sym p.firsts-are) ∙ column-at (length h.nets) (first_place h) p.old.firsts p.new.firsts p.holds.firsts (omega (arith, few-buyers, long.firsts)) e (omega (arith, p.buyers-are))

  size-at : (e : ℕ) → e < m → get_or sizes e 0 ≡ length (net h (e + 1)).pins
  size-at e l = ap (λ (t : List ℕ). get_or t e 0) (sym p.sizes-are) ∙ column-at (length h.nets) (λ d. length (net h d).pins) p.old.loaded_sizes p.new.loaded_sizes p.holds.loaded_sizes (omega (arith, few-buyers, long.sizes)) e (omega (arith, p.buyers-are))

  visited-at : (e : ℕ) → e < m → get_or visited e 0 ≡ mask h s.stack s.block (net h (e + 1))
  visited-at e l = ap (λ (t : List ℕ). get_or t e 0) (sym p.visited-are) ∙ column-at (length h.nets) (λ d. mask h s.stack s.block (net h d)) p.old.visited p.new.visited p.holds.visited (omega (arith, few-buyers, long.visited)) e (omega (arith, p.buyers-are))

  ends-in : (e : ℕ) → e < m → first_place h (e + 1) + length (net h (e + 1)).pins ≤ length (all_pins h.nets)
  ends-in e l = stretch-le h (e + 1) (omega arith) (omega (arith, p.buyers-are))

  all_in : length (all_pins h.nets) ≤ length pins
  all_in = omega (arith, marks-le p.limits h p.valid.ranges, long.pins, p.holds.loaded_pins.as_long, ap length p.pins-are)

  net-at : (e : ℕ) → net h (e + 1) ≡ get_or h.nets e no_net
  net-at e = let down : e + 1 - 1 ≡ e = omega arith in ap (λ (x : ℕ). get_or h.nets x no_net) down

  marks-at : (e : ℕ) → e < m → take (length (net h (e + 1)).pins) (drop (first_place h (e + 1)) pins) ≡ (net h (e + 1)).pins
  marks-at e l =
      let size : ℕ = length (net h (e + 1)).pins in
      let from : ℕ = first_place h (e + 1) in
      let lengths : length (take size (drop from pins)) ≡ size = length-take-le size (drop from pins) (omega (arith, length-drop from pins, ends-in e l, all_in)) in
      ext_get_or 0 (take size (drop from pins)) (net h (e + 1)).pins lengths (λ j u.
      let i : j < size = omega (arith, lengths) in
      get_or-take size (drop from pins) j 0 i
      ∙ get_or-drop from pins j 0
      ∙ ap (λ (t : List ℕ). get_or t (from + j) 0) (sym p.pins-are)
      ∙ p.holds.loaded_pins.marks (from + j) (omega (arith, ends-in e l))
      ∙ ap (λ (x : ℕ). get_or (all_pins h.nets) (x + j) 0) (first-is h e)
      ∙ stretch-at h.nets e j (omega (arith, p.buyers-are)) (omega (arith, i, ap (λ (x : Net). length x.pins) (net-at e)))
      ∙ ap (λ (x : Net). get_or x.pins j 0) (sym (net-at e)))

  net-in : (e : ℕ) → e < length h.nets → Within (vertices h) (net h (e + 1)) × All (net h (e + 1)).pins (λ x. in_sale h x ≡ true)
  net-in e l =
      let g = p.valid.ranges.loaded in
      (all-get h.nets _ no_net g.nets-in (e + 1 - 1) (omega arith), all-get h.nets _ no_net g.nets-sale (e + 1 - 1) (omega arith))

  pub promised-buyers : Buyers h s pins firsts sizes visited m
  promised-buyers = record {
    all = p.buyers-are;
    few = omega (arith, p.buyers-are, few-buyers);
    fits = (
      omega (arith, p.buyers-are, few-buyers, long.firsts, p.holds.firsts.as_long, ap length p.firsts-are),
      omega (arith, p.buyers-are, few-buyers, long.sizes, p.holds.loaded_sizes.as_long, ap length p.sizes-are),
      omega (arith, p.buyers-are, few-buyers, long.visited, p.holds.visited.as_long, ap length p.visited-are),
    );
    within = λ e l. omega (arith, first-at e l, size-at e l, ends-in e l, all_in);
    marks = λ e l. ap (λ (x : ℕ). take x (drop (get_or firsts e 0) pins)) (size-at e l) ∙ ap (λ (x : ℕ). take (length (net h (e + 1)).pins) (drop x pins)) (first-at e l) ∙ marks-at e l;
    known = λ e l. all_map (net h (e + 1)).pins _ _ (λ x r. (r.0, omega (arith, r.1, few-lots, p.few))) (net-in e (omega (arith, p.buyers-are))).0;
    counts = λ e l. ap (λ (x : ℕ). sum 16 (bit x)) (visited-at e l) ∙ mask-counts h s.stack s.block (net h (e + 1)) few-sessions;
  }

  module _ {sessions order₀ order : List ℕ} {count : ℕ} (seats : Seats h s sessions n) (long : length order₀ ≡ 1024) (w : Wrote order₀ order 0 (lots_by (entry_of sessions) n 16) count) where
    few : n ≤ 1024
    few = omega (arith, p.lots-are, few-lots, p.few)

    counted : count ≡ length (lots_by (entry_of sessions) n 16)
    counted = w.ends ∙ zero-add (length (lots_by (entry_of sessions) n 16))

    order_is : take count order ≡ lots_by (entry_of sessions) n 16
    unfolding written
    order_is = ap (take count) w.is ∙ take_at (lots_by (entry_of sessions) n 16) (drop (0 + length (lots_by (entry_of sessions) n 16)) order₀) count (sym counted)

    entry-is : (v : ℕ) → 1 ≤ v → v ≤ n → entry_of sessions v ≡ seat h s v
    entry-is v l u = let e : v - 1 + 1 ≡ v = omega arith in seats.is (v - 1) (omega arith) ∙ ap (seat h s) e

    pub promised-apart : Apart order count
    promised-apart i j l u e = by_apart (entry_of sessions) n 16 i j l (omega (arith, counted)) (at i (omega arith) ∙ e ∙ sym (at j u))
      where
        at : (i : ℕ) → i < count → get_or (lots_by (entry_of sessions) n 16) i 0 ≡ get_or order i 0
        at i k = ap (λ (t : List ℕ). get_or t i 0) (sym order_is) ∙ get_or-take count order i 0 k

    pub promised-seated : Seated h s sessions order count
    promised-seated = record {
      listed = record {
        few = omega (arith, counted, by_le (entry_of sessions) n 16, few);
        all = ap length order_is ∙ sym counted;
        known = subst Known (sym order_is) (all_map (lots_by (entry_of sessions) n 16) _ _ (λ x r. (r.0, omega (arith, r.1, few))) (by_in (entry_of sessions) n 16));
      };
      sheet-is = λ e l.
          let q : ℕ → Bool = is_in (net h (e + 1)).pins in
          ap (printed_of (entry_of sessions) q) order_is
          ∙ printed-ext (entry_of sessions) (seat h s) q q (lots_by (entry_of sessions) n 16) (all_map (lots_by (entry_of sessions) n 16) _ _ (λ v r. (entry-is v r.0 r.1, refl)) (by_in (entry_of sessions) n 16))
          ∙ ap (printed_of (seat h s) q) (by-ext (entry_of sessions) (seat h s) n 16 entry-is)
          ∙ ap (λ (x : ℕ). printed_of (seat h s) q (lots_by (seat h s) x 16)) p.lots-are
          ∙ ats-from h s legal (net h (e + 1)) (net-in e l).0 (net-in e l).1 few-sessions;
    }

-- ---- how many lots and buyers there are, where the tables held 65,535
module _ {limits : Limits} {a : Sale} {old new : Tables} (few : limits.vertex_limit ≤ 1024) (g : Valid limits a) (l : long_tables limits old ≡ true) (w : Holds a old new) where
  pub lots-in-use : ((y : ℕ) → y < length old.aboves → get_or old.aboves y 0 ≡ 65535) → InUse (vertices a.graph) new.aboves
  lots-in-use blank = column-in-use (vertices a.graph) (above a.state.stack) old.aboves new.aboves w.aboves
      (omega (arith, g.ranges.vertices-high, (long-is limits old l).aboves))
      (λ v _ _. omega (arith, above_in a.graph a.state.stack g.held.legal.inside v, g.ranges.vertices-high))
      blank

  pub buyers-in-use : ((y : ℕ) → y < length old.firsts → get_or old.firsts y 0 ≡ 65535) → InUse (length a.graph.nets) new.firsts
  buyers-in-use blank = column-in-use (length a.graph.nets) (first_place a.graph) old.firsts new.firsts w.firsts
      (omega (arith, g.ranges.nets-high, (long-is limits old l).firsts))
      (λ e low high. omega (arith, stretch-le a.graph e low high, marks-le limits a.graph g.ranges))
      blank

module _ {a : Sale} {blocks aboves pins firsts sizes visited : List ℕ} (d : Ended a blocks aboves pins firsts sizes visited) where
  pub ended-lots : InUse (vertices a.graph) aboves
  ended-lots = let p = d.promised in subst (InUse (vertices a.graph)) p.aboves-are (lots-in-use p.few p.valid p.long p.holds d.aboves-blank)

  pub ended-buyers : InUse (length a.graph.nets) firsts
  ended-buyers = let p = d.promised in subst (InUse (length a.graph.nets)) p.firsts-are (buyers-in-use p.few p.valid p.long p.holds d.firsts-blank)

  -- the numbers that were counted
  pub ended-promised : (n m : ℕ) → n ≡ vertices a.graph → m ≡ length a.graph.nets → Promised a blocks aboves pins firsts sizes visited n m
  ended-promised n m e f =
      subst (λ (x : ℕ). Promised a blocks aboves pins firsts sizes visited x m) (sym e)
      (subst (λ (y : ℕ). Promised a blocks aboves pins firsts sizes visited (vertices a.graph) y) (sym f) d.promised)
