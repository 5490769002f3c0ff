-- The catalogue that an accepted X or N leaves is within the ranges, its draft within the capacity (withdrawn-ranges, added-ranges), and how many lots are in
-- the sale (withdrawn-lots, added-lots). Rests on Changes and Ranges. Assumes nothing.
use Prim.Native.Nat.{ℕ, zero, suc, ◌+◌, ◌-◌, ◌*◌, ◌≤◌, ◌<◌}
use Rattle.std.proofs.Math.Decide.{ℕ_discrete, dec_lt}
use native.Mathlib.Omega.{arith}
use Rattle.std.specs.Prelude.{◌≡◌, Bool, not, ◌&&◌, ◌||◌, ◌⊎◌, eqb, get_or}
use Rattle.std.proofs.Math.Path.{refl, sym, ap, ap₂}
use Rattle.std.proofs.Common.{◌∙◌, subst, length-append}
use Rattle.std.proofs.Math.Bool.{true, false, cond, true≢false}
use mathlib.Core.List.{List, [], ◌∷◌, ◌++◌}
use Rattle.std.proofs.Math.Logic.{inl, inr, ⊎_elim}
use borrow.Author.Tests.{eq-eqb, ne_eqb, ltb-true, ltb-false, lt-ltb}
use Rattle.std.proofs.Math.Dec.{ltb}
use Rattle.std.proofs.Math.ListN.{length}
use Rattle.laws.specs.Choice.{one, cond-le}
use Rattle.laws.specs.Fold.{sum_over, any, All, all_map, all_more}
use Rattle.laws.specs.Sum.{sum_to, count_to, sum_to-ext, sum_to-change, sum_to-suc}
use Rattle.laws.specs.Occurrence.{Distinct, distinct_more}
use Rattle.model.specs.Catalogue.{Limits, Net, Hypergraph, vertices, loaded, drafted, fixed_entry, in_sale, average_weight, capacity, capacities}
use Rattle.model.specs.Measure.{above, on_board, block_weight}
use Rattle.model.specs.Machine.{fresh}
use Rattle.model.specs.Sale.{lots_in, marks_in, put, sessions, changed_at, withdrawn, added, nets_without, nets_with}
use Rattle.guarantees.specs.Board.{board-is, board-sale}
use Rattle.guarantees.specs.Ends.{Placed, At}
use Rattle.guarantees.specs.Splits.{above-none, block_weight-none}
use Rattle.guarantees.specs.Clumps.{Within}
use Rattle.guarantees.specs.Caps.{Capped}
use Rattle.guarantees.specs.Loads.{WellFormed}
use Rattle.guarantees.specs.Ranges.{Ranges}
use Rattle.guarantees.specs.Changes.{put-length, put-longer, put-even, put-at, put_other, put_all, sessions-length, sessions-at, unmarked-all, unmarked-distinct, without-length, without_all, without-marks, with-length, with_all, with-marks, named-le}

-- v is a known number or the next one
module _ (h : Hypergraph) (p : ℕ → ℕ) (v bales session : ℕ) (nets : List Net) (vl : 1 ≤ v) (vu : v ≤ suc (vertices h)) where
  abbrev h' : Hypergraph
  h' = changed_at h p v bales session nets

  pub capacity-same : capacity h' ≡ capacity h
  unfolding capacity average_weight changed_at
  capacity-same = refl

  pub vertices-same : v ≤ vertices h → vertices h' ≡ vertices h
  unfolding changed_at
  vertices-same l = put-length h.weights (v - 1) bales (omega arith)

  pub vertices-more : v ≡ suc (vertices h) → vertices h' ≡ suc (vertices h)
  unfolding changed_at
  vertices-more l = put-longer h.weights (v - 1) bales (omega arith)

  pub vertices-up : v ≤ vertices h'
  vertices-up = go (ℕ_discrete v (suc (vertices h)))
    where
      go : Dec (v ≡ suc (vertices h)) → v ≤ vertices h'
      go (yes e) = omega (arith, vertices-more e)
      go (no e) = omega (arith, vertices-same (omega arith))

  pub loaded_at : loaded h' v ≡ bales
  unfolding changed_at
  loaded_at = put-at h.weights (v - 1) bales (omega arith)

  pub loaded-other : (x : ℕ) → 1 ≤ x → (x ≡ v → ⊥) → loaded h' x ≡ loaded h x
  unfolding changed_at
  loaded-other x l n = put_other h.weights (v - 1) bales (x - 1) (omega arith) (λ e. n (omega arith))

  pub drafted-at : drafted h' v ≡ session
  unfolding changed_at
  drafted-at = put-at (sessions (vertices h) p) (v - 1) session (omega (arith, sessions-length (vertices h) p))

  pub drafted-other : (x : ℕ) → 1 ≤ x → x ≤ vertices h → (x ≡ v → ⊥) → drafted h' x ≡ p x
  unfolding changed_at
  drafted-other x l u n =
      put_other (sessions (vertices h) p) (v - 1) session (x - 1) (omega (arith, sessions-length (vertices h) p)) (λ e. n (omega arith))
      ∙ sessions-at (vertices h) p (x - 1) (omega arith)
      ∙ ap p (let e : suc (x - 1) ≡ x = omega arith in e)

  pub fixed-at : length h.fixed ≡ length h.weights → fixed_entry h' v ≡ 0
  unfolding changed_at
  fixed-at e = put-at h.fixed (v - 1) 0 (omega arith)

  pub fixed-other : length h.fixed ≡ length h.weights → (x : ℕ) → 1 ≤ x → (x ≡ v → ⊥) → fixed_entry h' x ≡ fixed_entry h x
  unfolding changed_at
  fixed-other e x l n = put_other h.fixed (v - 1) 0 (x - 1) (omega arith) (λ q. n (omega arith))

  sale-at : in_sale h' v ≡ ltb 0 bales
  sale-at = ap (ltb 0) loaded_at

  pub sale-other : (x : ℕ) → 1 ≤ x → (x ≡ v → ⊥) → in_sale h' x ≡ in_sale h x
  sale-other x l n = ap (ltb 0) (loaded-other x l n)

  pub known : (x : ℕ) → x ≤ vertices h' → (x ≡ v → ⊥) → x ≤ vertices h
  known x u n = go (ℕ_discrete v (suc (vertices h)))
    where
      go : Dec (v ≡ suc (vertices h)) → x ≤ vertices h
      go (yes e) = omega (arith, vertices-more e)
      go (no e) = omega (arith, vertices-same (omega arith))

  -- ---- the draft
  pub placed-changed : Placed h [] p → (1 ≤ bales → (1 ≤ session) × (session ≤ h.blocks)) → (bales ≡ 0 → session ≡ 0) → Placed h' [] (drafted h')
  unfolding changed_at
  placed-changed ok some none x l u = go (ℕ_discrete x v)
    where
      here : (b : Bool) → ltb 0 bales ≡ b → At h' [] (drafted h') v
      here true e = record {
        board = λ o. omega (arith, drafted-at, some (ltb-true 0 bales e));
        off = λ o. absurd (true≢false (sym (board-is h' [] v (above-none v) (sale-at ∙ e)) ∙ o));
      }
      here false e = record {
        board = λ o. absurd (true≢false (sym (board-sale h' [] v o) ∙ sale-at ∙ e));
        off = λ o. drafted-at ∙ none (omega (arith, ltb-false 0 bales e));
      }

      there : (x ≡ v → ⊥) → At h' [] (drafted h') x
      there n =
          let k = known x u n in
          let d = drafted-other x l k n in
          let same : on_board h [] x ≡ on_board h' [] x = ap (λ (b : Bool). eqb (above [] x) 0 && b) (sym (sale-other x l n)) in
          record {
            board = λ o. omega (arith, d, (ok x l k).board (same ∙ o));
            off = λ o. d ∙ (ok x l k).off (same ∙ o);
          }

      go : Dec (x ≡ v) → At h' [] (drafted h') x
      go (yes e) = subst (At h' [] (drafted h')) (sym e) (here (ltb 0 bales) refl)
      go (no n) = there n

  -- ---- weights of blocks
  term : (b : ℕ) → ℕ → ℕ
  term b u = cond (eqb (drafted h' u) b) (loaded h' u) 0

  pub weight-same : v ≤ vertices h → (b : ℕ) → block_weight h' [] (drafted h') b + cond (eqb (p v) b) (loaded h v) 0 ≡ block_weight h [] p b + cond (eqb session b) bales 0
  weight-same k b = omega (
    arith,
    block_weight-none h' (drafted h') b,
    ap (λ (n : ℕ). sum_to n (λ u. cond (eqb (drafted h' u) b) (loaded h' u) 0)) (vertices-same k),
    block_weight-none h p b,
    sum_to-change (vertices h) v (λ u. cond (eqb (drafted h' u) b) (loaded h' u) 0) (λ u. cond (eqb (p u) b) (loaded h u) 0) vl k
        (λ x l u n. ap₂ (λ (d w : ℕ). cond (eqb d b) w 0) (drafted-other x l u n) (loaded-other x l n)),
    ap₂ (λ (d w : ℕ). cond (eqb d b) w 0) drafted-at loaded_at,
  )

  pub weight-more : v ≡ suc (vertices h) → (b : ℕ) → block_weight h' [] (drafted h') b ≡ block_weight h [] p b + cond (eqb session b) bales 0
  weight-more k b = omega (
    arith,
    block_weight-none h' (drafted h') b,
    ap (λ (n : ℕ). sum_to n (λ u. cond (eqb (drafted h' u) b) (loaded h' u) 0)) (vertices-more k),
    sum_to-suc (vertices h) (λ u. cond (eqb (drafted h' u) b) (loaded h' u) 0),
    block_weight-none h p b,
    sum_to-ext (vertices h) (λ u. cond (eqb (drafted h' u) b) (loaded h' u) 0) (λ u. cond (eqb (p u) b) (loaded h u) 0)
        (λ x l u. ap₂ (λ (d w : ℕ). cond (eqb d b) w 0) (drafted-other x l u (λ e. omega arith)) (loaded-other x l (λ e. omega arith))),
    ap (λ (u : ℕ). cond (eqb (drafted h' u) b) (loaded h' u) 0) (sym k),
    ap₂ (λ (d w : ℕ). cond (eqb d b) w 0) drafted-at loaded_at,
  )

  -- ---- lots in the sale
  pub lots-same : v ≤ vertices h → lots_in h' + one (in_sale h v) ≡ lots_in h + one (ltb 0 bales)
  unfolding lots_in
  lots-same k = omega (
    arith,
    ap (λ (n : ℕ). sum_to n (λ u. one (in_sale h' u))) (vertices-same k),
    sum_to-change (vertices h) v (λ u. one (in_sale h' u)) (λ u. one (in_sale h u)) vl k (λ x l u n. ap one (sale-other x l n)),
    ap one sale-at,
  )

  pub lots-more : v ≡ suc (vertices h) → lots_in h' ≡ lots_in h + one (ltb 0 bales)
  unfolding lots_in
  lots-more k = omega (
    arith,
    ap (λ (n : ℕ). sum_to n (λ u. one (in_sale h' u))) (vertices-more k),
    sum_to-suc (vertices h) (λ u. one (in_sale h' u)),
    sum_to-ext (vertices h) (λ u. one (in_sale h' u)) (λ u. one (in_sale h u)) (λ x l u. ap one (sale-other x l (λ e. omega arith))),
    ap (λ (u : ℕ). one (in_sale h' u)) (sym k),
    ap one sale-at,
  )

-- ---- the ranges of the catalogue that is left
both : {A : Type 0} (l : List A) (P Q : A → Type 0) → All l P → All l Q → All l (λ x. P x × Q x)
both [] P Q a b = tt
both (x ∷ l) P Q a b = ((a.0, b.0), both l P Q a.1 b.1)

module _ (limits : Limits) (h : Hypergraph) (r : Ranges limits h) (p : ℕ → ℕ) (placed : Placed h [] p) (capped : Capped h (capacities h) [] p) where
  -- an X: v is a lot in the sale
  module _ (v : ℕ) (vl : 1 ≤ v) (vk : v ≤ vertices h) where
    abbrev out : Hypergraph
    out = withdrawn h p v

    later : v ≤ suc (vertices h)
    later = omega arith

    pub withdrawn-vertices : vertices out ≡ vertices h
    unfolding withdrawn
    withdrawn-vertices = vertices-same h p v 0 0 (nets_without v h.nets) vl later vk

    pub withdrawn-sale : (x : ℕ) → 1 ≤ x → (x ≡ v → ⊥) → in_sale out x ≡ in_sale h x
    unfolding withdrawn
    withdrawn-sale = sale-other h p v 0 0 (nets_without v h.nets) vl later

    pub withdrawn-gone : in_sale out v ≡ false
    unfolding withdrawn
    withdrawn-gone = ap (ltb 0) (loaded_at h p v 0 0 (nets_without v h.nets) vl later)

    pub withdrawn-lots : in_sale h v ≡ true → lots_in out + 1 ≡ lots_in h
    unfolding withdrawn
    withdrawn-lots q = omega (arith, lots-same h p v 0 0 (nets_without v h.nets) vl later vk, ap one q)

    pub withdrawn-lighter : (b : ℕ) → block_weight out [] (drafted out) b ≤ block_weight h [] p b
    unfolding withdrawn
    withdrawn-lighter b = omega (arith, weight-same h p v 0 0 (nets_without v h.nets) vl later vk b, cond-le (eqb 0 b) 0 0 (omega arith))

    pub withdrawn-marks : marks_in out ≤ marks_in h
    unfolding withdrawn changed_at marks_in
    withdrawn-marks = without-marks v h.nets

    withdrawn-capped : Capped out (capacities out) [] (drafted out)
    unfolding withdrawn changed_at
    withdrawn-capped b l u = omega (arith, withdrawn-lighter b, capped b l u, capacity-same h p v 0 0 (nets_without v h.nets) vl later)

    withdrawn-formed : WellFormed limits out
    unfolding withdrawn changed_at
    withdrawn-formed =
        let g = r.loaded in
        let longs : length (put h.weights (v - 1) 0) ≡ length h.weights = put-length h.weights (v - 1) 0 (omega arith) in
        record {
          blocks-low = g.blocks-low;
          blocks-high = g.blocks-high;
          as_long = put-length (sessions (vertices h) p) (v - 1) 0 (omega (arith, sessions-length (vertices h) p)) ∙ sessions-length (vertices h) p ∙ sym longs;
          fixed-long = put-length h.fixed (v - 1) 0 (omega (arith, g.fixed-long)) ∙ g.fixed-long ∙ sym longs;
          fixed_in = put_all h.fixed (v - 1) 0 _ g.fixed_in (omega arith);
          fixed-sale = λ x l u q. kept-sale x l u q (ℕ_discrete x v);
          lows-long = put-length h.lows (v - 1) 0 (omega (arith, g.lows-long)) ∙ g.lows-long ∙ sym longs;
          nets-in = without_all v h.nets _ _ g.nets-in (λ e w. unmarked-all v e.pins _ _ w (λ x n i. (i.0, omega (arith, i.1, longs))));
          nets-sale = without_all v h.nets _ _ (both h.nets _ _ g.nets-in g.nets-sale) (λ e w. unmarked-all v e.pins _ _ (both e.pins _ _ w.0 w.1) (λ x n i. withdrawn-sale x i.0.0 n ∙ i.1));
          nets-distinct = without_all v h.nets _ _ g.nets-distinct (λ e d. unmarked-distinct v e.pins d);
          weights-in = put_all h.weights (v - 1) 0 _ g.weights-in (omega arith);
          net-weights = without_all v h.nets _ _ g.net-weights (λ e w. w);
          imbalance-high = g.imbalance-high;
        }
      where
        kept-sale : (x : ℕ) → 1 ≤ x → x ≤ vertices out → fixed_entry out x ≡ 1 → Dec (x ≡ v) → in_sale out x ≡ true
        kept-sale x l u q (yes e) = absurd (omega (arith, q, ap (fixed_entry out) e, fixed-at h p v 0 0 (nets_without v h.nets) vl later r.loaded.fixed-long))
        kept-sale x l u q (no n) = withdrawn-sale x l n ∙ r.loaded.fixed-sale x l (omega (arith, withdrawn-vertices)) (sym (fixed-other h p v 0 0 (nets_without v h.nets) vl later r.loaded.fixed-long x l n) ∙ q)

    pub withdrawn-ranges : Ranges limits out
    unfolding withdrawn changed_at fresh
    withdrawn-ranges = record {
      vertices-low = omega (arith, withdrawn-vertices, r.vertices-low);
      vertices-high = omega (arith, withdrawn-vertices, r.vertices-high);
      nets-high = omega (arith, without-length v h.nets, r.nets-high);
      marks-high = omega (arith, without-marks v h.nets, r.marks-high);
      total-high = r.total-high;
      loaded = withdrawn-formed;
      placed = placed-changed h p v 0 0 (nets_without v h.nets) vl later placed (λ l. absurd (omega arith)) (λ e. refl);
      draft-within = withdrawn-capped;
    }

  -- an N: v is a number that no lot in the sale has, known or the next one
  module _ (v bales session : ℕ) (buyers : List ℕ) (vl : 1 ≤ v) (which : (v ≤ vertices h) ⊎ (v ≡ suc (vertices h))) (unused : in_sale h v ≡ false)
      (wl : 1 ≤ bales) (wu : bales ≤ 65535) (bl : 1 ≤ session) (bu : session ≤ h.blocks) where
    abbrev more : Hypergraph
    more = added h p v bales session buyers

    within-next : v ≤ suc (vertices h)
    within-next = ⊎_elim (λ k. omega arith) (λ k. omega arith) which

    pub added-vertices : (vertices more ≡ vertices h) ⊎ ((vertices more ≡ suc (vertices h)) × (v ≡ suc (vertices h)))
    unfolding added
    added-vertices = ⊎_elim (λ k. inl (vertices-same h p v bales session (nets_with v buyers 1 h.nets) vl within-next k)) (λ k. inr (vertices-more h p v bales session (nets_with v buyers 1 h.nets) vl within-next k, k)) which

    no_less : vertices h ≤ vertices more
    no_less = ⊎_elim (λ k. omega (arith, k)) (λ k. omega (arith, k.0)) added-vertices

    pub number_in : v ≤ vertices more
    unfolding added
    number_in = ⊎_elim (λ k. ⊎_elim (λ w. omega (arith, k, w)) (λ w. absurd (clash k w)) which) (λ k. omega (arith, k.0, k.1)) added-vertices
      where
        clash : vertices more ≡ vertices h → v ≡ suc (vertices h) → ⊥
        clash k w = omega (arith, k, vertices-more h p v bales session (nets_with v buyers 1 h.nets) vl within-next w)

    pub added-sale : (x : ℕ) → 1 ≤ x → (x ≡ v → ⊥) → in_sale more x ≡ in_sale h x
    unfolding added
    added-sale = sale-other h p v bales session (nets_with v buyers 1 h.nets) vl within-next

    pub added-there : in_sale more v ≡ true
    unfolding added
    added-there = ap (ltb 0) (loaded_at h p v bales session (nets_with v buyers 1 h.nets) vl within-next) ∙ lt-ltb 0 bales (omega arith)

    pub added-lots : lots_in more ≡ lots_in h + 1
    unfolding added
    added-lots =
        let one_more : one (ltb 0 bales) ≡ 1 = ap one (lt-ltb 0 bales (omega arith)) in
        ⊎_elim
        (λ k. omega (arith, lots-same h p v bales session (nets_with v buyers 1 h.nets) vl within-next k, ap one unused, one_more))
        (λ k. omega (arith, lots-more h p v bales session (nets_with v buyers 1 h.nets) vl within-next k, one_more))
        which

    pub added-heavier : (b : ℕ) → block_weight more [] (drafted more) b ≤ block_weight h [] p b + cond (eqb session b) bales 0
    unfolding added
    added-heavier b = ⊎_elim
        (λ k. omega (arith, weight-same h p v bales session (nets_with v buyers 1 h.nets) vl within-next k b))
        (λ k. omega (arith, weight-more h p v bales session (nets_with v buyers 1 h.nets) vl within-next k b))
        which

    pub added-marks : marks_in more ≤ marks_in h + length buyers
    unfolding added changed_at marks_in
    added-marks = omega (arith, with-marks v buyers 1 h.nets, named-le buyers 1 h.nets)

    added-capped : block_weight h [] p session + bales ≤ capacity h → Capped more (capacities more) [] (drafted more)
    unfolding added changed_at
    added-capped room b l u = go (ℕ_discrete session b)
      where
        heavier : block_weight more [] (drafted more) b ≤ block_weight h [] p b + cond (eqb session b) bales 0
        heavier = added-heavier b

        same : capacity more ≡ capacity h
        same = capacity-same h p v bales session (nets_with v buyers 1 h.nets) vl within-next

        go : Dec (session ≡ b) → block_weight more [] (drafted more) b ≤ capacity more
        go (yes e) = omega (arith, heavier, same, ap (block_weight h [] p) e, ap (λ (t : Bool). cond t bales 0) (eq-eqb session b e))
        go (no n) = omega (arith, heavier, same, capped b l u, ap (λ (t : Bool). cond t bales 0) (ne_eqb session b n))

    -- no buyer has a mark at an unused number
    absent : (l : List ℕ) → All l (λ x. in_sale h x ≡ true) → any l (λ x. eqb x v) ≡ false
    unfolding any
    absent [] a = refl
    absent (x ∷ l) a = ap₂ (λ (s t : Bool). s || t) (ne_eqb x v (λ e. true≢false (sym a.0 ∙ ap (in_sale h) e ∙ unused))) (absent l a.1)

    old-sale : (x : ℕ) → 1 ≤ x → in_sale h x ≡ true → in_sale more x ≡ true
    old-sale x l q = added-sale x l (λ e. true≢false (sym q ∙ ap (in_sale h) e ∙ unused)) ∙ q

    old-in : (x : ℕ) → (1 ≤ x) × (x ≤ vertices h) → (1 ≤ x) × (x ≤ vertices more)
    old-in x i = (i.0, omega (arith, i.1, no_less))

    added-formed : WellFormed limits more
    unfolding added changed_at
    added-formed =
        let g = r.loaded in
        record {
          blocks-low = g.blocks-low;
          blocks-high = g.blocks-high;
          as_long = put-even (sessions (vertices h) p) h.weights (v - 1) session bales (sessions-length (vertices h) p);
          fixed-long = put-even h.fixed h.weights (v - 1) 0 bales g.fixed-long;
          fixed_in = put_all h.fixed (v - 1) 0 _ g.fixed_in (omega arith);
          fixed-sale = λ x l u q. kept-sale x l u q (ℕ_discrete x v);
          lows-long = put-even h.lows h.weights (v - 1) bales bales g.lows-long;
          nets-in = with_all v buyers 1 h.nets _ _ g.nets-in (λ e w. all_map e.pins _ _ old-in w) (λ e w. all_more e.pins _ v (all_map e.pins _ _ old-in w) (vl, number_in));
          nets-sale = with_all v buyers 1 h.nets _ _ (both h.nets _ _ g.nets-in g.nets-sale)
              (λ e w. all_map e.pins _ _ (λ x i. old-sale x i.0.0 i.1) (both e.pins _ _ w.0 w.1))
              (λ e w. all_more e.pins _ v (all_map e.pins _ _ (λ x i. old-sale x i.0.0 i.1) (both e.pins _ _ w.0 w.1)) added-there);
          nets-distinct = with_all v buyers 1 h.nets _ _ (both h.nets _ _ g.nets-distinct g.nets-sale) (λ e w. w.0) (λ e w. distinct_more e.pins v w.0 (absent e.pins w.1));
          weights-in = put_all h.weights (v - 1) bales _ g.weights-in wu;
          net-weights = with_all v buyers 1 h.nets _ _ g.net-weights (λ e w. w) (λ e w. w);
          imbalance-high = g.imbalance-high;
        }
      where
        nets : List Net
        nets = nets_with v buyers 1 h.nets

        kept-sale : (x : ℕ) → 1 ≤ x → x ≤ vertices more → fixed_entry more x ≡ 1 → Dec (x ≡ v) → in_sale more x ≡ true
        kept-sale x l u q (yes e) = ap (in_sale more) e ∙ added-there
        kept-sale x l u q (no n) = added-sale x l n ∙ r.loaded.fixed-sale x l (known h p v bales session nets vl within-next x u n) (sym (fixed-other h p v bales session nets vl within-next r.loaded.fixed-long x l n) ∙ q)

    pub added-ranges : vertices more ≤ limits.vertex_limit → sum_over h.nets (λ e. length e.pins) + length buyers ≤ 8192 → block_weight h [] p session + bales ≤ capacity h → Ranges limits more
    unfolding added changed_at fresh
    added-ranges few marks room = record {
      vertices-low = omega (arith, no_less, r.vertices-low);
      vertices-high = few;
      nets-high = omega (arith, with-length v buyers 1 h.nets, r.nets-high);
      marks-high = omega (arith, with-marks v buyers 1 h.nets, named-le buyers 1 h.nets);
      total-high = r.total-high;
      loaded = added-formed;
      placed = placed-changed h p v bales session (nets_with v buyers 1 h.nets) vl within-next placed (λ l. (bl, bu)) (λ e. absurd (omega arith));
      draft-within = added-capped room;
    }
