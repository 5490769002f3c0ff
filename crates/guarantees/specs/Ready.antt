-- The index in lent memory after every list of calls: it holds each pair of a board lot and another session once and no other (each-pair-once),
-- and its first open pair in the order of choice is the one that the full search finds, whichever pairs are open (first-is-best). Rests on Ranks,
-- Tops, Ranges and model's Ready. Assumes nothing.
use Prim.Native.Nat.{ℕ, suc, ◌+◌, ◌-◌, ◌*◌, ◌/◌, ◌%◌, ◌≤◌, ◌<◌}
use Rattle.std.proofs.Math.Decide.{ℕ_discrete, dec_lt}
use Rattle.std.proofs.Math.Nat.{zero-add}
use native.Mathlib.Omega.{arith}
use Rattle.std.specs.Prelude.{◌≡◌, refl, Bool, false, not, ◌||◌, ◌⊎◌, eqb, leb, ℤ, length, get_or, ◌≤ℤ◌, ◌<ℤ◌}
use Rattle.std.proofs.Common.{sym, ◌∙◌, subst, inl, inr, leb-true, lt-ltb, le-leb, eq-eqb, ne_eqb}
use Rattle.std.proofs.Math.Path.{ap, ap₂}
use Rattle.std.proofs.Math.Bool.{true, cond, ◌&&◌}
use mathlib.Core.List.{List}
use Rattle.std.proofs.lemmas.Bool.{lt-leb}
use Rattle.std.proofs.Math.Dec.{ltb}
use Rattle.std.proofs.Math.ListN.{get_or-eq_default}
use Rattle.std.specs.Int.Signed.{lt_z}
use Rattle.laws.specs.Choice.{one, one-full, and_right}
use Rattle.laws.specs.Fold.{all-get}
use Rattle.laws.specs.Sum.{sum-ext, sum-skip}
use Rattle.laws.specs.Integer.{lt_test, lt-test-no, le_parts, lt-parts}
use Rattle.laws.specs.Occurrence.{same, occ, same-no, occ-none}
use Rattle.model.specs.Catalogue.{Limits, Hypergraph, vertices}
use Rattle.model.specs.Measure.{on_board, gain}
use Rattle.model.specs.Machine.{State}
use Rattle.model.specs.Sale.{Sale}
use Rattle.model.specs.Search.{Best, none, best, best_pair}
use Rattle.model.specs.Index.{ahead}
use Rattle.model.specs.Memory.{Tables, Holds, index_entry}
use Rattle.model.specs.Ready.{times_in, is_pair, EachPairOnce, Found, FirstIsBest}
use Rattle.guarantees.specs.Ranked.{ranked_by, Other}
use Rattle.guarantees.specs.Ranks.{ranked-is, ranked-only, ranked-once, ranked-short}
use Rattle.guarantees.specs.Tops.{Earlier, Top, best-top}
use Rattle.guarantees.specs.Reached.{Valid}

-- ---- a row of the table: k places that hold a vertex's other blocks, and zeros after them
module _ (gain : ℕ → ℤ) (own k : ℕ) (index : List ℕ) (from : ℕ) (holds : (j : ℕ) → j < k → get_or index (from + j) 0 ≡ get_or (ranked_by gain own k) j 0) where
  abbrev row : List ℕ
  row = ranked_by gain own k

  row-once : (b : ℕ) → Other own k b → occ index from k b ≡ 1
  unfolding occ
  row-once b o =
      sum-ext k (λ i. same (get_or index (from + i) 0) b) (λ i. same (get_or row i 0) b) (λ i l. ap (λ (c : ℕ). same c b) (holds i l))
      ∙ sum-skip (length row) k (λ i. same (get_or row i 0) b) (ranked-short gain own k) (λ i l u. ap (λ (c : ℕ). same c b) (get_or-eq_default row 0 l) ∙ same-no 0 b (λ e. omega (arith, o.0)))
      ∙ (simp zero-add at (ranked-once gain own k b o))

  row-none : (b : ℕ) → 1 ≤ b → (Other own k b → ⊥) → occ index from k b ≡ 0
  row-none b l no_other = occ-none index from k b (λ i u e. go i u e (dec_lt i (length row)))
    where
      go : (i : ℕ) → i < k → get_or index (from + i) 0 ≡ b → Dec (i < length row) → ⊥
      go i u e (yes z) = no_other (subst (Other own k) (sym (holds i u) ∙ e) (all-get row (Other own k) 0 (ranked-only gain own k) i z))
      go i u e (no z) = omega (arith, l, e, holds i u, get_or-eq_default row 0 {n = i} (omega arith))

  -- so each block from 1 on stands there once or not at all
  row-times : (b : ℕ) → 1 ≤ b → occ index from k b ≡ one (not (eqb own b) && leb b k)
  row-times b l = go (ℕ_discrete own b) (dec_lt k b)
    where
      go : Dec (own ≡ b) → Dec (k < b) → occ index from k b ≡ one (not (eqb own b) && leb b k)
      go (yes e) d = row-none b l (λ o. o.2 e) ∙ sym (ap (λ (t : Bool). one (not t && leb b k)) (eq-eqb own b e))
      go (no e) (yes u) = row-none b l (λ o. omega (arith, o.1)) ∙ sym (ap₂ (λ (t r : Bool). one (not t && r)) (ne_eqb own b e) (lt-leb b k u))
      go (no e) (no u) = row-once b (l, omega arith, e) ∙ sym (ap₂ (λ (t r : Bool). one (not t && r)) (ne_eqb own b e) (le-leb b k (omega arith)))

-- ---- the order of choice over pairs, by tests
or-true : (t : Bool) → (t || true) ≡ true
or-true true = refl
or-true false = refl

less-yes : (a b : ℤ) → a <ℤ b → lt_z a b ≡ true
less-yes a b l = go (lt_z a b) refl
  where
    go : (t : Bool) → lt_z a b ≡ t → lt_z a b ≡ true
    go true e = e
    go false e = absurd (omega (arith, lt-parts a b l, lt-test-no a b e))

less-no : (a b : ℤ) → b ≤ℤ a → lt_z a b ≡ false
less-no a b l = go (lt_z a b) refl
  where
    go : (t : Bool) → lt_z a b ≡ t → lt_z a b ≡ false
    go true e = absurd (omega (arith, le_parts b a l, lt_test a b e))
    go false e = e

module _ (worth : ℕ → ℕ → ℤ) (v b x c : ℕ) where
  -- a pair goes before one that is worth less
  ahead_more : worth x c <ℤ worth v b → ahead worth v b x c ≡ true
  unfolding ahead
  ahead_more l = ap (λ (t : Bool). t || (not (lt_z (worth v b) (worth x c)) && (ltb v x || (eqb v x && ltb b c)))) (less-yes (worth x c) (worth v b) l)

  -- and before a later one that is worth no more
  ahead-first : worth x c ≤ℤ worth v b → Earlier v b x c → ahead worth v b x c ≡ true
  unfolding ahead
  ahead-first l q =
      ap₂ (λ (s t : Bool). lt_z (worth x c) (worth v b) || (not s && t)) (less-no (worth v b) (worth x c) l) (before q) ∙ or-true (lt_z (worth x c) (worth v b))
    where
      before : Earlier v b x c → (ltb v x || (eqb v x && ltb b c)) ≡ true
      before (inl u) = ap (λ (t : Bool). t || (eqb v x && ltb b c)) (lt-ltb v x u)
      before (inr u) = ap₂ (λ (s t : Bool). ltb v x || (s && t)) (eq-eqb v x u.0) (lt-ltb b c u.1) ∙ or-true (ltb v x)

  -- one of two pairs is the earlier, or they are the same
  one_earlier : ((x ≡ v) × (c ≡ b)) ⊎ (Earlier x c v b ⊎ Earlier v b x c)
  one_earlier = go (ℕ_discrete x v) (dec_lt x v) (ℕ_discrete c b) (dec_lt c b)
    where
      go : Dec (x ≡ v) → Dec (x < v) → Dec (c ≡ b) → Dec (c < b) → ((x ≡ v) × (c ≡ b)) ⊎ (Earlier x c v b ⊎ Earlier v b x c)
      go (yes p) q (yes r) z = inl (p, r)
      go (yes p) q (no r) (yes z) = inr (inl (inr (p, z)))
      go (yes p) q (no r) (no z) = inr (inr (inr (sym p, omega arith)))
      go (no p) (yes q) r z = inr (inl (inl q))
      go (no p) (no q) r z = inr (inr (inl (omega arith)))

-- ---- the table
module _ (limits : Limits) (a : Sale) (valid : Valid limits a) where
  abbrev h : Hypergraph
  h = a.graph

  abbrev s : State
  s = a.state

  abbrev worth : ℕ → ℕ → ℤ
  worth = gain h s.stack s.block

  module _ (narrow : limits.block_limit ≤ 16) (old t : Tables) (long : 16 * limits.vertex_limit ≤ length old.index) (q : Holds a old t) where
    -- place j of a vertex's row
    index_at : (v j : ℕ) → 1 ≤ v → v ≤ vertices h → j < h.blocks → get_or t.index (16 * (v - 1) + j) 0 ≡ cond (on_board h s.stack v) (get_or (ranked_by (worth v) (s.block v) h.blocks) j 0) 0
    unfolding index_entry
    index_at v j vl vu ju =
        let i : ℕ = 16 * (v - 1) + j in
        let r = valid.ranges in
        let few : j < 16 = omega (arith, r.loaded.blocks-high) in
        let line : i / 16 ≡ v - 1 = omega arith in
        let place : i % 16 ≡ j = omega arith in
        let vertex : suc (v - 1) ≡ v = omega arith in
        let back : suc j - 1 ≡ j = omega arith in
        let used : (ltb (i / 16) (vertices h) && ltb (i % 16) h.blocks) ≡ true = ap₂ ◌&&◌ (lt-ltb (i / 16) (vertices h) (omega arith)) (lt-ltb (i % 16) h.blocks (omega arith)) in
        q.index.entries i (omega (arith, r.vertices-high))
        ∙ ap (λ (c : Bool). cond c (index_entry h s.stack s.block (suc (i / 16)) (suc (i % 16))) (get_or old.index i 0)) used
        ∙ ap₂ (λ (x y : ℕ). index_entry h s.stack s.block x y) (ap suc line ∙ vertex) (ap suc place)
        ∙ ap₂ (λ (l : List ℕ) (y : ℕ). cond (on_board h s.stack v) (get_or l y 0) 0) (ranked-is worth v (s.block v) h.blocks) back

    -- on the board it is such a row, and off the board it has zeros
    once : EachPairOnce h s t
    once v b vl vu bl = go (on_board h s.stack v) (λ j u. index_at v j vl vu u)
      where
        go : (on : Bool) → ((j : ℕ) → j < h.blocks → get_or t.index (16 * (v - 1) + j) 0 ≡ cond on (get_or (ranked_by (worth v) (s.block v) h.blocks) j 0) 0)
            → times_in h s t v b ≡ one ((on && not (eqb (s.block v) b)) && leb b h.blocks)
        go true e = row-times (worth v) (s.block v) h.blocks t.index (16 * (v - 1)) e b bl
        go false e = occ-none t.index (16 * (v - 1)) h.blocks b (λ j u z. omega (arith, bl, z, e j u))

    module _ (is_open : ℕ → ℕ → Bool) (pairs : (v b : ℕ) → is_open v b ≡ true → is_pair h s t v b ≡ true) where
      abbrev InRange : ℕ → ℕ → Type 0
      InRange v b = (1 ≤ v) × (v ≤ vertices h) × (1 ≤ b) × (b ≤ h.blocks)

      -- what the index holds is in range
      in-range : (v b : ℕ) → 1 ≤ v → v ≤ vertices h → 1 ≤ b → times_in h s t v b ≡ 1 → InRange v b
      in-range v b vl vu bl e =
          let full : (is_pair h s t v b && leb b h.blocks) ≡ true = one-full _ (omega (arith, e, once v b vl vu bl)) in
          (vl, vu, bl, leb-true b h.blocks (and_right (is_pair h s t v b) _ full))

      -- every other open pair of the index is earlier and worth less, or later and worth no more
      found : (p : Best) → Top is_open worth InRange p → Found h s t is_open p
      found none top = λ v b vl vu bl e. top v b (in-range v b vl vu bl e)
      found (best v b g) top = (
        record {
          lot = (top.there.0, top.there.1);
          session = (top.there.2, top.there.3);
          held = once v b top.there.0 top.there.1 top.there.2 ∙ ap₂ (λ (c d : Bool). one (c && d)) (pairs v b top.open-pair) (le-leb b h.blocks top.there.3);
          open-pair = top.open-pair;
          first = λ x c xl xu cl e o. behind x c (in-range x c xl xu cl e) o (one_earlier worth v b x c);
        },
        top.value,
      )
        where
          behind : (x c : ℕ) → InRange x c → is_open x c ≡ true → ((x ≡ v) × (c ≡ b)) ⊎ (Earlier x c v b ⊎ Earlier v b x c) → ((x ≡ v) × (c ≡ b)) ⊎ (ahead worth v b x c ≡ true)
          behind x c r o (inl e) = inl e
          behind x c r o (inr (inl l)) = inr (ahead_more worth v b x c (subst (λ (z : ℤ). worth x c <ℤ z) top.value (top.first x c r o l)))
          behind x c r o (inr (inr l)) = inr (ahead-first worth v b x c (subst (λ (z : ℤ). worth x c ≤ℤ z) top.value (top.highest x c r o)) l)

  pub each-pair-once : limits.block_limit ≤ 16 → (old t : Tables) → 16 * limits.vertex_limit ≤ length old.index → Holds a old t → EachPairOnce h s t
  each-pair-once = once

  pub first-is-best : limits.block_limit ≤ 16 → (old t : Tables) → 16 * limits.vertex_limit ≤ length old.index → Holds a old t → FirstIsBest h s t
  first-is-best narrow old t long q is_open pairs =
      found narrow old t long q is_open pairs (best_pair (vertices h) h.blocks is_open worth) (best-top is_open worth h.blocks (vertices h))
