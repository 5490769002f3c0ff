-- From an accepted catalogue, after every list of call lines, X and N among them, accepted or refused, the sale is valid (reached): its present catalogue is within
-- the ranges, its machine in a state that the laws of calls want, and the numbers withdrawn and still free are those of lots not in the sale. So no block is
-- above the capacity (within-capacity). As long as no X or N is accepted the catalogue is the loaded one (unchanged). Rests on Changed and StateBounds. Assumes nothing.
use Prim.Native.Nat.{ℕ, zero, suc, ◌+◌, ◌-◌, ◌≤◌, ◌<◌}
use native.Mathlib.Omega.{arith}
use Rattle.std.specs.Prelude.{◌≡◌, Bool, true, not, ◌&&◌, ◌||◌, cond, ◌⊎◌, eqb}
use Rattle.std.proofs.Math.Path.{refl, ap, subst}
use Rattle.std.proofs.Common.{sym, ◌∙◌}
use Rattle.std.proofs.Math.Bool.{false, true≢false}
use mathlib.Core.List.{List, [], ◌∷◌}
use Rattle.std.proofs.Math.Logic.{inl, inr, ⊎_elim}
use borrow.Author.Tests.{ltb-true, ltb-false, leb-true, leb-false, le-ltb, not-false}
use Rattle.std.proofs.Math.Dec.{leb, ltb}
use Rattle.std.proofs.Math.ListN.{length, drop, get_or-eq_default}
use Rattle.laws.specs.Choice.{one, and_left, and_right, or-none, cond-zero}
use Rattle.laws.specs.Fold.{all, All, all_map}
use Rattle.laws.specs.Sum.{sum_to-ext, sum_to-const}
use Rattle.model.specs.Catalogue.{Limits, Hypergraph, vertices, loaded, in_sale, is_vertex, is_block, is_net, capacity, capacities}
use Rattle.model.specs.Measure.{Contraction, on_board, block_weight}
use Rattle.model.specs.Machine.{State, fresh}
use Rattle.model.specs.Sale.{Request, runs, call_x, call_n, Sale, Turn, opened, Space, space_of, lots_in, marks_in, withdrawn, added, nets_with, number_for, joins_stand, named_twice, refuses_x, refuses_n, turned, does_x, does_n, ran, turn_under, turn}
use Rattle.model.specs.Engine.{after}
use Rattle.model.specs.Demand.{Accepted, WithinCapacity, reached_by}
use Rattle.guarantees.specs.Board.{board-sale}
use Rattle.guarantees.specs.Ends.{Placed}
use Rattle.guarantees.specs.Calls.{legal-fresh, vertex-range, block-range}
use Rattle.guarantees.specs.Caps.{Capped, Held, held-call}
use Rattle.guarantees.specs.StateBounds.{Listed, listed-call, journal-call}
use Rattle.guarantees.specs.Loads.{loaded-sale}
use Rattle.guarantees.specs.Ranges.{Few, Ranges, accepted-ranges, accepted-loaded}
use Rattle.guarantees.specs.Changed.{vertices-up, withdrawn-vertices, withdrawn-sale, withdrawn-gone, withdrawn-lots, withdrawn-lighter, withdrawn-marks, withdrawn-ranges, added-vertices, number_in, added-sale, added-lots, added-heavier, added-marks, added-ranges}

-- no number twice
abbrev pub Once : List ℕ → Type 0
Once [] = Unit {0}
Once (v ∷ l) = All l (λ x. x ≡ v → ⊥) × Once l

pub record Valid (limits : Limits) (a : Sale) : Type 0 where
  pub ranges : Ranges limits a.graph
  pub held : Held a.graph (capacities a.graph) a.state
  pub listed : Listed a.graph a.state.journal
  pub free_in : All a.free (λ v. (1 ≤ v) × (v ≤ vertices a.graph) × (in_sale a.graph v ≡ false))
  pub free-once : Once a.free
  pub counted : lots_in a.graph + length a.free ≡ vertices a.graph

module _ (limits : Limits) where
  -- ---- a fresh machine
  pub held-fresh : (h : Hypergraph) → Ranges limits h → Held h (capacities h) (fresh h)
  unfolding fresh
  held-fresh h r = record { legal = legal-fresh h r.placed; capped = r.draft-within; back = tt }

  listed-fresh : (h : Hypergraph) → Listed h (fresh h).journal
  unfolding fresh
  listed-fresh h = tt

  pub all-lots : (h : Hypergraph) → ((x : ℕ) → 1 ≤ x → x ≤ vertices h → in_sale h x ≡ true) → lots_in h ≡ vertices h
  unfolding lots_in
  all-lots h f = omega (arith, sum_to-ext (vertices h) (λ v. one (in_sale h v)) (λ v. 1) (λ x l u. ap one (f x l u)), sum_to-const (vertices h) 1)

  pub valid-opened : (h : Hypergraph) → Ranges limits h → ((x : ℕ) → 1 ≤ x → x ≤ vertices h → in_sale h x ≡ true) → Valid limits (opened h)
  valid-opened h r f = record {
    ranges = r;
    held = held-fresh h r;
    listed = listed-fresh h;
    free_in = tt;
    free-once = tt;
    counted = omega (arith, all-lots h f);
  }

  valid-start : Few limits → (h : Hypergraph) → Accepted limits h → Valid limits (opened h)
  valid-start few h a = valid-opened h (accepted-ranges limits few h a) (loaded-sale (accepted-loaded limits h a))

  -- ---- one call line
  pub turned-keeps : (P : Sale → Type 0) (q : ℕ) (a : Sale) (done : Turn) → P a → (q ≡ 0 → P done.sale) → P (turned q a done).sale
  unfolding turned
  turned-keeps P zero a done k f = f refl
  turned-keeps P (suc q) a done k f = k

  no_joins : (s : State) → joins_stand s ≡ false → s.stack ≡ []
  no_joins s q = go s.stack refl (ltb-false 0 (length s.stack) q)
    where
      go : (cs : List Contraction) → s.stack ≡ cs → length s.stack ≤ 0 → s.stack ≡ []
      go [] e l = e
      go (c ∷ cs) e l = absurd (omega (arith, ap length e))

  module _ (a : Sale) (k : Valid limits a) where
    abbrev h : Hypergraph
    h = a.graph

    abbrev p : ℕ → ℕ
    p = a.state.block

    -- with no join standing
    module _ (none : a.state.stack ≡ []) where
      placed : Placed h [] p
      placed = subst (λ (cs : List Contraction). Placed h cs p) none k.held.legal.placed

      capped : Capped h (capacities h) [] p
      capped = subst (λ (cs : List Contraction). Capped h (capacities h) cs p) none k.held.capped

      valid-X : (v : ℕ) → 1 ≤ v → v ≤ vertices h → in_sale h v ≡ true → Valid limits (does_x a v).sale
      unfolding does_x
      valid-X v l u q =
          let r = withdrawn-ranges limits h k.ranges p placed capped v l u in
          let n = withdrawn-vertices limits h k.ranges p placed capped v l u in
          record {
            ranges = r;
            held = held-fresh (withdrawn h p v) r;
            listed = listed-fresh (withdrawn h p v);
            free_in = (
              (l, omega (arith, n), withdrawn-gone limits h k.ranges p placed capped v l u),
              all_map a.free _ _ (λ x i. (i.0, omega (arith, i.1, n), withdrawn-sale limits h k.ranges p placed capped v l u x i.0 (other x i.2) ∙ i.2)) k.free_in,
            );
            free-once = (all_map a.free _ _ (λ x i. other x i.2) k.free_in, k.free-once);
            counted = omega (arith, n, k.counted, withdrawn-lots limits h k.ranges p placed capped v l u q);
          }
        where
          other : (x : ℕ) → in_sale h x ≡ false → x ≡ v → ⊥
          other x i e = true≢false (sym q ∙ ap (in_sale h) (sym e) ∙ i)

      -- N's number is unused
      module _ (bales session : ℕ) (buyers : List ℕ) (wl : 1 ≤ bales) (wu : bales ≤ 65535) (bl : 1 ≤ session) (bu : session ≤ h.blocks)
          (few : lots_in h < limits.vertex_limit) (marks : marks_in h + length buyers ≤ 8192) (room : block_weight h [] p session + bales ≤ capacity h) where
        abbrev next : ℕ → Hypergraph
        next v = added h p v bales session buyers

        unused : in_sale h (suc (vertices h)) ≡ false
        unused = ap (ltb 0) (get_or-eq_default h.weights 0 (omega arith))

        valid-next : a.free ≡ [] → Valid limits (record { graph = next (suc (vertices h)); free = []; changed = true; state = fresh (next (suc (vertices h))) })
        unfolding marks_in
        valid-next e =
            let v : ℕ = suc (vertices h) in
            let z : length a.free ≡ 0 = ap length e in
            let one_more : 1 ≤ v = omega arith in
            let n : vertices (next v) ≡ suc (vertices h) = ⊎_elim
            (λ i. absurd (omega (arith, i, number_in limits h k.ranges p placed capped v bales session buyers one_more (inr refl) unused wl wu bl bu)))
            (λ i. i.0)
            (added-vertices limits h k.ranges p placed capped v bales session buyers one_more (inr refl) unused wl wu bl bu) in
            let r = added-ranges limits h k.ranges p placed capped v bales session buyers one_more (inr refl) unused wl wu bl bu (omega (arith, n, k.counted)) marks room in
            record {
              ranges = r;
              held = held-fresh (next v) r;
              listed = listed-fresh (next v);
              free_in = tt;
              free-once = tt;
              counted = omega (arith, n, k.counted, added-lots limits h k.ranges p placed capped v bales session buyers one_more (inr refl) unused wl wu bl bu);
            }

        valid-again : (v : ℕ) (l : List ℕ) → a.free ≡ v ∷ l → Valid limits (record { graph = next v; free = l; changed = true; state = fresh (next v) })
        unfolding marks_in
        valid-again v l e =
            let i : All (v ∷ l) (λ v. (1 ≤ v) × (v ≤ vertices h) × (in_sale h v ≡ false)) = subst (λ (f : List ℕ). All f (λ v. (1 ≤ v) × (v ≤ vertices h) × (in_sale h v ≡ false))) e k.free_in in
            let o : Once (v ∷ l) = subst Once e k.free-once in
            let z : length a.free ≡ suc (length l) = ap length e in
            let n : vertices (next v) ≡ vertices h = ⊎_elim (λ q. q) (λ q. absurd (omega (arith, q.1, i.0.1)))
            (added-vertices limits h k.ranges p placed capped v bales session buyers i.0.0 (inl i.0.1) i.0.2 wl wu bl bu) in
            let r = added-ranges limits h k.ranges p placed capped v bales session buyers i.0.0 (inl i.0.1) i.0.2 wl wu bl bu (omega (arith, n, k.ranges.vertices-high)) marks room in
            record {
              ranges = r;
              held = held-fresh (next v) r;
              listed = listed-fresh (next v);
              free_in = both l _ _ _ i.1 o.0 (λ x j ne. (j.0, omega (arith, j.1, n), added-sale limits h k.ranges p placed capped v bales session buyers i.0.0 (inl i.0.1) i.0.2 wl wu bl bu x j.0 ne ∙ j.2));
              free-once = o.1;
              counted = omega (arith, n, k.counted, added-lots limits h k.ranges p placed capped v bales session buyers i.0.0 (inl i.0.1) i.0.2 wl wu bl bu);
            }
          where
            both : (l : List ℕ) (P Q R : ℕ → Type 0) → All l P → All l Q → ((x : ℕ) → P x → Q x → R x) → All l R
            both [] P Q R a b f = tt
            both (x ∷ l) P Q R a b f = (f x a.0 b.0, both l P Q R a.1 b.1 f)

        valid-N : Valid limits (does_n a bales session buyers).sale
        unfolding does_n number_for
        valid-N = go a.free refl
          where
            go : (f : List ℕ) → a.free ≡ f → Valid limits (record { graph = next (number_for h f); free = drop 1 f; changed = true; state = fresh (next (number_for h f)) })
            go [] e = valid-next e
            go (v ∷ l) e = valid-again v l e

    vertices-next : (v bales session : ℕ) (buyers : List ℕ) → 1 ≤ v → v ≤ suc (vertices h) → v ≤ vertices (added h p v bales session buyers)
    unfolding added
    vertices-next v bales session buyers l u = vertices-up h p v bales session (nets_with v buyers 1 h.nets) l u

    -- a sale with at most so many bales in each block, lots and marks more
    pub record Grows (b : Sale) (more : ℕ → ℕ) (lots marks : ℕ) : Type 0 where
      pub bales-le : (t : ℕ) → block_weight b.graph b.state.stack b.state.block t ≤ block_weight h a.state.stack p t + more t
      pub lots-le : lots_in b.graph ≤ lots_in h + lots
      pub marks-le : marks_in b.graph ≤ marks_in h + marks

    -- X: what its tests say
    pub accepts-X : (v : ℕ) → refuses_x h a.state v ≡ 0 → Valid limits (does_x a v).sale
    unfolding refuses_x
    accepts-X v q =
        let t = cond-zero (not (is_vertex h v)) 9 _ (omega arith) q in
        let j = cond-zero (joins_stand a.state) 16 _ (omega arith) t.1 in
        let o = cond-zero (not (on_board h a.state.stack v)) 10 0 (omega arith) j.1 in
        let r = vertex-range h v (not-false _ t.0) in
        valid-X (no_joins a.state j.0) v r.0 r.1 (board-sale h a.state.stack v (not-false _ o.0))

    -- N, where it may have no more lots and marks than the limits have
    pub accepts-in : (space : Space) → space.lots ≤ limits.vertex_limit → space.marks ≤ 8192 → (bales session : ℕ) (buyers : List ℕ) → refuses_n space h (capacities h) a.state bales session buyers ≡ 0
        → Valid limits (does_n a bales session buyers).sale
    unfolding refuses_n
    accepts-in space lots marks bales session buyers q =
        let t = cond-zero (not (leb 1 bales && leb bales 65535 && is_block h session && all buyers (is_net h))) 9 _ (omega arith) q in
        let j = cond-zero (joins_stand a.state) 16 _ (omega arith) t.1 in
        let w = cond-zero (named_twice buyers) 22 _ (omega arith) j.1 in
        let f = cond-zero (leb space.lots (lots_in h) || ltb space.marks (marks_in h + length buyers)) 23 _ (omega arith) w.1 in
        let c = cond-zero (not (leb (block_weight h a.state.stack p session + bales) (capacity h))) 14 0 (omega arith) f.1 in
        let known = and_left _ _ (not-false _ t.0) in
        let sized = and_left _ _ known in
        let s = or-none (leb space.lots (lots_in h)) _ f.0 in
        let none = no_joins a.state j.0 in
        let b = block-range h session (and_right (leb 1 bales && leb bales 65535) _ known) in
        valid-N none bales session buyers (leb-true 1 bales (and_left _ _ sized)) (leb-true bales 65535 (and_right (leb 1 bales) _ sized)) b.0 b.1
        (omega (arith, lots, leb-false space.lots (lots_in h) s.0)) (omega (arith, marks, ltb-false space.marks (marks_in h + length buyers) s.1))
        (subst (λ (cs : List Contraction). block_weight h cs p session + bales ≤ capacity h) none (leb-true _ _ (not-false _ c.0)))

    pub accepts-N : (bales session : ℕ) (buyers : List ℕ) → refuses_n (space_of limits) h (capacities h) a.state bales session buyers ≡ 0 → Valid limits (does_n a bales session buyers).sale
    accepts-N bales session buyers q = accepts-in (space_of limits) (omega arith) (omega arith) bales session buyers q

    -- bales, lots and marks after an accepted X
    pub X-counts : (v : ℕ) → refuses_x h a.state v ≡ 0 → Grows (does_x a v).sale (λ b. 0) 0 0
    unfolding does_x refuses_x fresh
    X-counts v q =
        let t = cond-zero (not (is_vertex h v)) 9 _ (omega arith) q in
        let j = cond-zero (joins_stand a.state) 16 _ (omega arith) t.1 in
        let o = cond-zero (not (on_board h a.state.stack v)) 10 0 (omega arith) j.1 in
        let r = vertex-range h v (not-false _ t.0) in
        let none = no_joins a.state j.0 in
        record {
          bales-le = λ b. omega (arith, withdrawn-lighter limits h k.ranges p (placed none) (capped none) v r.0 r.1 b, ap (λ (cs : List Contraction). block_weight h cs p b) none);
          lots-le = omega (arith, withdrawn-lots limits h k.ranges p (placed none) (capped none) v r.0 r.1 (board-sale h a.state.stack v (not-false _ o.0)));
          marks-le = omega (arith, withdrawn-marks limits h k.ranges p (placed none) (capped none) v r.0 r.1);
        }

    -- N's number is that of no lot in the sale
    number-new : (1 ≤ number_for h a.free) × ((number_for h a.free ≤ vertices h) ⊎ (number_for h a.free ≡ suc (vertices h))) × (in_sale h (number_for h a.free) ≡ false)
    unfolding number_for
    number-new = go a.free k.free_in
      where
        go : (f : List ℕ) → All f (λ v. (1 ≤ v) × (v ≤ vertices h) × (in_sale h v ≡ false)) → (1 ≤ number_for h f) × ((number_for h f ≤ vertices h) ⊎ (number_for h f ≡ suc (vertices h))) × (in_sale h (number_for h f) ≡ false)
        go [] i = (omega arith, inr refl, ap (ltb 0) (get_or-eq_default h.weights 0 (omega arith)))
        go (v ∷ l) i = (i.0.0, inl i.0.1, i.0.2)

    -- and after an accepted N
    pub N-counts : (space : Space) (bales session : ℕ) (buyers : List ℕ) → refuses_n space h (capacities h) a.state bales session buyers ≡ 0 → Grows (does_n a bales session buyers).sale (λ b. cond (eqb session b) bales 0) 1 (length buyers)
    unfolding does_n refuses_n fresh
    N-counts space bales session buyers q =
        let t = cond-zero (not (leb 1 bales && leb bales 65535 && is_block h session && all buyers (is_net h))) 9 _ (omega arith) q in
        let j = cond-zero (joins_stand a.state) 16 _ (omega arith) t.1 in
        let known = and_left _ _ (not-false _ t.0) in
        let sized = and_left _ _ known in
        let none = no_joins a.state j.0 in
        let b = block-range h session (and_right (leb 1 bales && leb bales 65535) _ known) in
        let n = number-new in
        let wl = leb-true 1 bales (and_left _ _ sized) in
        let wu = leb-true bales 65535 (and_right (leb 1 bales) _ sized) in
        let v : ℕ = number_for h a.free in
        record {
          bales-le = λ t. omega (arith, added-heavier limits h k.ranges p (placed none) (capped none) v bales session buyers n.0 n.1 n.2 wl wu b.0 b.1 t, ap (λ (cs : List Contraction). block_weight h cs p t) none);
          lots-le = omega (arith, added-lots limits h k.ranges p (placed none) (capped none) v bales session buyers n.0 n.1 n.2 wl wu b.0 b.1);
          marks-le = omega (arith, added-marks limits h k.ranges p (placed none) (capped none) v bales session buyers n.0 n.1 n.2 wl wu b.0 b.1);
        }

    -- what 23 leaves
    pub N-space : (space : Space) (bales session : ℕ) (buyers : List ℕ) → refuses_n space h (capacities h) a.state bales session buyers ≡ 0 → (lots_in h < space.lots) × (marks_in h + length buyers ≤ space.marks)
    unfolding refuses_n
    N-space space bales session buyers q =
        let t = cond-zero (not (leb 1 bales && leb bales 65535 && is_block h session && all buyers (is_net h))) 9 _ (omega arith) q in
        let j = cond-zero (joins_stand a.state) 16 _ (omega arith) t.1 in
        let w = cond-zero (named_twice buyers) 22 _ (omega arith) j.1 in
        let f = cond-zero (leb space.lots (lots_in h) || ltb space.marks (marks_in h + length buyers)) 23 _ (omega arith) w.1 in
        let s = or-none (leb space.lots (lots_in h)) _ f.0 in
        (leb-false _ _ s.0, ltb-false _ _ s.1)

    -- what an accepted X and an accepted N tell
    pub X-told : (v : ℕ) → refuses_x h a.state v ≡ 0 → (a.state.stack ≡ []) × (1 ≤ v) × (v ≤ vertices h)
    unfolding refuses_x
    X-told v q =
        let t = cond-zero (not (is_vertex h v)) 9 _ (omega arith) q in
        let j = cond-zero (joins_stand a.state) 16 _ (omega arith) t.1 in
        let r = vertex-range h v (not-false _ t.0) in
        (no_joins a.state j.0, r.0, r.1)

    pub N-told-in : (space : Space) (bales session : ℕ) (buyers : List ℕ) → refuses_n space h (capacities h) a.state bales session buyers ≡ 0
        → (a.state.stack ≡ []) × (1 ≤ number_for h a.free) × (number_for h a.free ≤ suc (vertices h))
    unfolding refuses_n number_for
    N-told-in space bales session buyers q =
        let t = cond-zero (not (leb 1 bales && leb bales 65535 && is_block h session && all buyers (is_net h))) 9 _ (omega arith) q in
        let j = cond-zero (joins_stand a.state) 16 _ (omega arith) t.1 in
        let n = number a.free k.free_in in
        (no_joins a.state j.0, n.0, n.1)
      where
        number : (f : List ℕ) → All f (λ v. (1 ≤ v) × (v ≤ vertices h) × (in_sale h v ≡ false)) → (1 ≤ number_for h f) × (number_for h f ≤ suc (vertices h))
        number [] i = (omega arith, omega arith)
        number (v ∷ l) i = (i.0.0, omega (arith, i.0.1))

    pub N-told : (bales session : ℕ) (buyers : List ℕ) → refuses_n (space_of limits) h (capacities h) a.state bales session buyers ≡ 0
        → (a.state.stack ≡ []) × (1 ≤ number_for h a.free) × (number_for h a.free ≤ suc (vertices h))
    N-told bales session buyers q = N-told-in (space_of limits) bales session buyers q

    -- N's number is one of the catalogue that it leaves
    pub number-known : (bales session : ℕ) (buyers : List ℕ) → number_for h a.free ≤ vertices (does_n a bales session buyers).sale.graph
    unfolding does_n number_for
    number-known bales session buyers = omega (arith, number-le' bales session a.free buyers k.free_in)
      where
        number-le' : (bales session : ℕ) (f buyers : List ℕ) → All f (λ v. (1 ≤ v) × (v ≤ vertices h) × (in_sale h v ≡ false)) → number_for h f ≤ vertices (added h p (number_for h f) bales session buyers)
        number-le' bales session [] buyers i = omega (arith, vertices-next (suc (vertices h)) bales session buyers (omega arith) (omega arith))
        number-le' bales session (v ∷ l) buyers i = omega (arith, vertices-next v bales session buyers i.0.0 (omega (arith, i.0.1)))

    pub number-le : (bales session : ℕ) (buyers : List ℕ) → refuses_n (space_of limits) h (capacities h) a.state bales session buyers ≡ 0
        → number_for h a.free ≤ vertices (does_n a bales session buyers).sale.graph
    number-le bales session buyers q = number-known bales session buyers

    pub valid-turn : (c : Request) → Valid limits (turn limits a c).sale
    unfolding turn_under ran
    valid-turn (runs c) = record {
      ranges = k.ranges;
      held = held-call h (capacities h) a.state c k.held;
      listed = listed-call h (capacities h) a.state c k.listed;
      free_in = k.free_in;
      free-once = k.free-once;
      counted = k.counted;
    }
    valid-turn (call_x v) = turned-keeps (Valid limits) (refuses_x h a.state v) a (does_x a v) k (accepts-X v)
    valid-turn (call_n bales session buyers) = turned-keeps (Valid limits) (refuses_n (space_of limits) h (capacities h) a.state bales session buyers) a (does_n a bales session buyers) k (accepts-N bales session buyers)

  -- ---- a list of call lines
  pub valid-after : (a : Sale) (calls : List Request) → Valid limits a → Valid limits (after limits a calls)
  unfolding after
  valid-after a [] k = k
  valid-after a (c ∷ cs) k = valid-after (turn limits a c).sale cs (valid-turn a k c)

  -- the record of moves is no longer than the list
  journal-turn : (n : ℕ) (a : Sale) (c : Request) → length a.state.journal ≤ n → length (turn limits a c).sale.state.journal ≤ suc n
  unfolding turn_under ran does_x does_n fresh
  journal-turn n a (runs c) l = journal-call a.graph n (capacities a.graph) a.state c l
  journal-turn n a (call_x v) l = turned-keeps (λ b. length b.state.journal ≤ suc n) (refuses_x a.graph a.state v) a (does_x a v) (omega arith) (λ q. omega arith)
  journal-turn n a (call_n bales session buyers) l =
      turned-keeps (λ b. length b.state.journal ≤ suc n) (refuses_n (space_of limits) a.graph (capacities a.graph) a.state bales session buyers) a (does_n a bales session buyers) (omega arith) (λ q. omega arith)

  journal-after : (n : ℕ) (a : Sale) (calls : List Request) → length a.state.journal ≤ n → length (after limits a calls).state.journal ≤ n + length calls
  unfolding after
  journal-after n a [] l = omega arith
  journal-after n a (c ∷ cs) l = omega (arith, journal-after (suc n) (turn limits a c).sale cs (journal-turn n a c l))

  module _ (few : Few limits) (h : Hypergraph) (a : Accepted limits h) where
    pub reached : (calls : List Request) → Valid limits (reached_by limits h calls)
    reached calls = valid-after (opened h) calls (valid-start few h a)

    pub within-capacity : (calls : List Request) → WithinCapacity (reached_by limits h calls).graph (reached_by limits h calls).state
    within-capacity calls = (reached calls).held.capped

  pub journal-le : (h : Hypergraph) (calls : List Request) → length (reached_by limits h calls).state.journal ≤ length calls
  unfolding fresh
  journal-le h calls = omega (arith, journal-after 0 (opened h) calls (omega arith))

  -- ---- as long as no X or N is accepted
  abbrev Same : Hypergraph → Sale → Type 0
  Same h a = a.changed ≡ false → a.graph ≡ h

  same_turn : (h : Hypergraph) (a : Sale) (c : Request) → Same h a → Same h (turn limits a c).sale
  unfolding turn_under ran does_x does_n
  same_turn h a (runs c) s = s
  same_turn h a (call_x v) s = turned-keeps (Same h) (refuses_x a.graph a.state v) a (does_x a v) s (λ q e. absurd (true≢false e))
  same_turn h a (call_n bales session buyers) s =
      turned-keeps (Same h) (refuses_n (space_of limits) a.graph (capacities a.graph) a.state bales session buyers) a (does_n a bales session buyers) s (λ q e. absurd (true≢false e))

  same_after : (h : Hypergraph) (a : Sale) (calls : List Request) → Same h a → Same h (after limits a calls)
  unfolding after
  same_after h a [] s = s
  same_after h a (c ∷ cs) s = same_after h (turn limits a c).sale cs (same_turn h a c s)

  pub unchanged : (h : Hypergraph) (calls : List Request) → (reached_by limits h calls).changed ≡ false → (reached_by limits h calls).graph ≡ h
  unchanged h calls = same_after h (opened h) calls (λ e. refl)
