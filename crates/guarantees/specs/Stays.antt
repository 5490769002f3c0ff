-- A kept lot stays where its grower wants it (M-104): after every list of calls the vertex that represents a fixed vertex of the catalogue is in that
-- vertex's block of the draft (fixed-stays), under any ceilings. Rests on Fixed and Caps. Assumes nothing.
use Prim.Native.Nat.{ℕ, zero, suc, ◌-◌, ◌*◌, ◌≤◌}
use Rattle.std.proofs.Math.Decide.{ℕ_discrete}
use Rattle.std.proofs.Common.{arith, sym, ap₂, ◌∙◌, true≢false, eq-eqb}
use Rattle.std.specs.Prelude.{◌≡◌, Bool, true, false, not, ◌&&◌, cond, eqb, ltb, pos, drop}
use Rattle.std.proofs.Math.Path.{refl, ap, subst}
use mathlib.Core.List.{List, [], ◌∷◌}
use Rattle.std.proofs.lemmas.Bool.{not-true}
use Rattle.laws.specs.Choice.{and_left, and_right, cond_yes, cond_no, cond-zero}
use Rattle.laws.specs.Place.{place, place_at, place-off}
use Rattle.model.specs.Catalogue.{Net, Hypergraph, Limits, vertices, drafted, fixed_entry, is_vertex, is_block, capacities}
use Rattle.model.specs.Measure.{Contraction, climb, on_board, representative, is_fixed}
use Rattle.model.specs.Machine.{Call, call_j, call_s, call_m, call_b, call_w, call_p, call_a, Move, State, Step, fresh, settle, refuses_j, contract, does_j, refuses_m, does_m, uncontract, does_s, does_b}
use Rattle.model.specs.Search.{Best, none, best, Coarse, Fine, rating, can_go, can_join, join_best, join_turn, board_size, coarsen, refine, refuses_w, does_w, does_p, refuses_a, does_a, call_under}
use Rattle.model.specs.Sale.{Request, runs, call_x, call_n, Sale, opened, Space, space_of, nets_without, nets_with, changed_at, withdrawn, added, number_for, refuses_x, refuses_n, does_x, does_n, ran, turn_under, turn}
use Rattle.model.specs.Engine.{after}
use Rattle.model.specs.Demand.{Accepted, reached_by}
use Rattle.guarantees.specs.Climbs.{Sound, representative-join}
use Rattle.guarantees.specs.Splits.{representative-none}
use Rattle.guarantees.specs.Fixed.{fixed-by}
use Rattle.guarantees.specs.Tops.{Top, best-top}
use Rattle.guarantees.specs.Ends.{Placed, Pair}
use Rattle.guarantees.specs.Walks.{walked-metric}
use Rattle.guarantees.specs.Calls.{Legal, coarsened, can-join, AllInside, placed-split, legal-J}
use Rattle.guarantees.specs.Contractions.{one_block}
use Rattle.guarantees.specs.Caps.{walked_keeps, polished-keeps}
use Rattle.guarantees.specs.Ranges.{Few}
use Rattle.guarantees.specs.Reached.{Valid, turned-keeps, X-told, N-told-in, valid-turn, reached}
use Rattle.guarantees.specs.Changes.{put-at, put_other}
use Rattle.guarantees.specs.Changed.{known, drafted-other}

module _ (h : Hypergraph) where
  -- each fixed vertex of the catalogue is represented in its block of the draft
  abbrev pub Stays : List Contraction → (ℕ → ℕ) → Type 0
  Stays cs p = (x : ℕ) → 1 ≤ x → x ≤ vertices h → fixed_entry h x ≡ 1 → p (representative cs x) ≡ drafted h x

  -- a vertex that is not fixed represents no fixed vertex
  not-it : (cs : List Contraction) (v x : ℕ) → 1 ≤ x → x ≤ vertices h → fixed_entry h x ≡ 1 → is_fixed h cs v ≡ false → representative cs x ≡ v → ⊥
  not-it cs v x l u e f q = true≢false (sym (fixed-by h cs v x l u (ap₂ (λ (a b : Bool). a && b) (eq-eqb (representative cs x) v q) (eq-eqb (fixed_entry h x) 1 e))) ∙ f)

  -- so its move keeps them there
  stays-move : (cs : List Contraction) (p : ℕ → ℕ) (v t : ℕ) → is_fixed h cs v ≡ false → Stays cs p → Stays cs (place p v t)
  stays-move cs p v t f s x l u e = place-off p v t (representative cs x) (λ q. not-it cs v x l u e f q) ∙ s x l u e

  -- a contraction of two vertices of one block, and its undo
  stays-join : (cs : List Contraction) (c : Contraction) (p : ℕ → ℕ) → Sound (c ∷ cs) → p c.into ≡ p c.gone → Stays cs p → Stays (c ∷ cs) (place p c.gone 0)
  stays-join cs c p so q s x l u e = go (ℕ_discrete (representative cs x) c.gone)
    where
      go : Dec (representative cs x ≡ c.gone) → place p c.gone 0 (representative (c ∷ cs) x) ≡ drafted h x
      go (yes r) =
          ap (place p c.gone 0) (representative-join cs c so x ∙ cond_yes (representative cs x) c.gone c.into (representative cs x) r)
          ∙ place-off p c.gone 0 c.into so.0.two
          ∙ q
          ∙ ap p (sym r)
          ∙ s x l u e
      go (no n) =
          ap (place p c.gone 0) (representative-join cs c so x ∙ cond_no (representative cs x) c.gone c.into (representative cs x) n)
          ∙ place-off p c.gone 0 (representative cs x) n
          ∙ s x l u e

  stays-split : (cs : List Contraction) (c : Contraction) (p : ℕ → ℕ) → Sound (c ∷ cs) → Stays (c ∷ cs) p → Stays cs (uncontract p c)
  unfolding uncontract
  stays-split cs c p so s x l u e = go (ℕ_discrete (representative cs x) c.gone)
    where
      go : Dec (representative cs x ≡ c.gone) → place p c.gone (p c.into) (representative cs x) ≡ drafted h x
      go (yes r) =
          ap (place p c.gone (p c.into)) r
          ∙ place_at p c.gone (p c.into)
          ∙ ap p (sym (representative-join cs c so x ∙ cond_yes (representative cs x) c.gone c.into (representative cs x) r))
          ∙ s x l u e
      go (no n) =
          place-off p c.gone (p c.into) (representative cs x) n
          ∙ ap p (sym (representative-join cs c so x ∙ cond_no (representative cs x) c.gone c.into (representative cs x) n))
          ∙ s x l u e

  -- ---- A's contractions
  join-stays : (c : Coarse) (on : Coarse → Coarse) → Sound c.stack → Stays c.stack c.block → ((d : Coarse) → Sound d.stack → Stays d.stack d.block → Stays (on d).stack (on d).block)
      → (b : Best) → Top (can_join h c.stack c.block) (λ u v. pos (rating h c.stack u v)) (λ u v. (1 ≤ u) × (u ≤ vertices h) × (1 ≤ v) × (v ≤ vertices h)) b → Stays (join_turn h c on b).stack (join_turn h c on b).block
  unfolding join_turn
  join-stays c on so s ih none top = s
  join-stays c on so s ih (best u v g) top =
      let j = can-join h c.stack c.block u v top.there.0 top.open-pair in
      ih _ (j.0, so) (stays-join c.stack (record { into = u; gone = v }) c.block (j.0, so) j.1 s)

  coarsen-stays : (n : ℕ) (c : Coarse) → Sound c.stack → Stays c.stack c.block → Stays (coarsen h n c).stack (coarsen h n c).block
  unfolding coarsen join_best
  coarsen-stays zero c so s = s
  coarsen-stays (suc n) c so s = go (coarsen-stays n) (ltb (2 * h.blocks) (board_size h c.stack))
    where
      turn : Coarse
      turn = join_turn h c (coarsen h n) (join_best h c.stack c.block)

      go : ((d : Coarse) → Sound d.stack → Stays d.stack d.block → Stays (coarsen h n d).stack (coarsen h n d).block) → (b : Bool) → Stays (cond b turn c).stack (cond b turn c).block
      go ih true = join-stays c (coarsen h n) so s ih _ (best-top (can_join h c.stack c.block) (λ u v. pos (rating h c.stack u v)) (vertices h) (vertices h))
      go ih false = s

  -- what stays along the calls: and no move on the record is of a fixed vertex
  abbrev Unfixed : List Contraction → List Move → Type 0
  Unfixed cs [] = Unit {0}
  Unfixed cs (m ∷ ms) = (is_fixed h cs m.vertex ≡ false) × Unfixed cs ms

  pub record Kept (s : State) : Type 0 where
    pub stays : Stays s.stack s.block
    pub unfixed : Unfixed s.stack s.journal

  pub kept-settled : (q : ℕ) (s : State) (done : Step) → Kept s → (q ≡ 0 → Kept done.state) → Kept (settle q s done).state
  unfolding settle
  kept-settled zero s done k f = f refl
  kept-settled (suc q) s done k f = k

  pub kept-B : (s : State) (ms : List Move) → s.journal ≡ ms → Kept s → Kept (does_b h s ms).state
  unfolding does_b
  kept-B s [] q k = k
  kept-B s (m ∷ ms) q k =
      let f : Unfixed s.stack (m ∷ ms) = subst (Unfixed s.stack) q k.unfixed in
      record { stays = stays-move s.stack s.block m.vertex m.from f.0 k.stays; unfixed = f.1 }

  -- ---- the calls, under any ceilings
  module _ (ceiling : ℕ → ℕ) where
    stays-go : (cs : List Contraction) (p : ℕ → ℕ) (v t : ℕ) → Stays cs p → Pair h cs v t → can_go h ceiling cs p v t ≡ true → Stays cs (place p v t)
    unfolding can_go
    stays-go cs p v t s r q = stays-move cs p v t (not-true _ (and_right (on_board h cs v) _ (and_left _ _ (and_left _ _ q)))) s

    refine-stays : (cs : List Contraction) (f : Fine) → Sound cs → AllInside h cs → Placed h cs f.block → Stays cs f.block → Stays [] (refine h ceiling cs f).block
    unfolding refine
    refine-stays [] f so r placed s = s
    refine-stays (c ∷ cs) f so r placed s =
        let placed' = placed-split h cs c f.block so.0 r.0 placed in
        refine-stays cs _ so.1 r.1 (walked-metric h ceiling cs (uncontract f.block c) c.into c.gone placed').0
        (walked_keeps h ceiling cs (Stays cs) (stays-go cs) (uncontract f.block c) c.into c.gone placed' (stays-split cs c f.block so s))

    kept-J : (s : State) (u v : ℕ) → Legal h s → Kept s → refuses_j h s u v ≡ 0 → Kept (does_j h s u v).state
    unfolding does_j contract
    kept-J s u v ok k q = record {
      stays = stays-join s.stack (record { into = u; gone = v }) s.block (legal-J h s u v ok q).sound (one_block h s u v q) k.stays;
      unfixed = tt;
    }

    kept-S : (s : State) (cs : List Contraction) → s.stack ≡ cs → Legal h s → Kept s → Kept (does_s s cs).state
    unfolding does_s
    kept-S s [] q ok k = k
    kept-S s (c ∷ cs) q ok k = record {
      stays = stays-split cs c s.block (subst Sound q ok.sound) (subst (λ (l : List Contraction). Stays l s.block) q k.stays);
      unfixed = tt;
    }

    pub kept-M : (s : State) (v t : ℕ) → Kept s → refuses_m h ceiling s v t ≡ 0 → Kept (does_m h s v t).state
    unfolding refuses_m does_m
    kept-M s v t k q =
        let a = cond-zero (not (is_vertex h v && is_block h t)) 9 _ (omega arith) q in
        let b = cond-zero (not (on_board h s.stack v)) 10 _ (omega arith) a.1 in
        let c = cond-zero (eqb (s.block v) t) 12 _ (omega arith) b.1 in
        let x = cond-zero (is_fixed h s.stack v) 20 _ (omega arith) c.1 in
        record { stays = stays-move s.stack s.block v t x.0 k.stays; unfixed = (x.0, k.unfixed) }

    kept-A : (s : State) (cs : List Contraction) → s.stack ≡ cs → Legal h s → Kept s → refuses_a h s cs ≡ 0 → Kept (does_a h ceiling s).state
    unfolding refuses_a does_a
    kept-A s [] q ok k e =
        let placed = subst (λ (l : List Contraction). Placed h l s.block) q ok.placed in
        let c = coarsened h (vertices h) s.block (record { stack = []; block = s.block }) (record { sound = tt; inside = tt; placed = placed; same = refl; same-weights = λ b. refl; free = tt }) in
        record {
          stays = polished-keeps h ceiling [] (Stays []) (stays-go []) _
              (refine-stays _ _ c.sound c.inside c.placed
              (coarsen-stays (vertices h) (record { stack = []; block = s.block }) tt (subst (λ (l : List Contraction). Stays l s.block) q k.stays)));
          unfixed = tt;
        }
    kept-A s (c ∷ cs) q ok k e = absurd (omega arith)

    pub kept-call : (s : State) (c : Call) → Legal h s → Kept s → Kept (call_under h ceiling s c).state
    unfolding call_under does_w does_p
    kept-call s (call_j u v) ok k = kept-settled (refuses_j h s u v) s (does_j h s u v) k (kept-J s u v ok k)
    kept-call s call_s ok k = kept-S s s.stack refl ok k
    kept-call s (call_m v t) ok k = kept-settled (refuses_m h ceiling s v t) s (does_m h s v t) k (kept-M s v t k)
    kept-call s call_b ok k = kept-B s s.journal refl k
    kept-call s (call_w u v) ok k = kept-settled (refuses_w h s u v) s (does_w h ceiling s u v) k (λ q. record {
      stays = walked_keeps h ceiling s.stack (Stays s.stack) (stays-go s.stack) s.block u v ok.placed k.stays;
      unfixed = tt;
    })
    kept-call s call_p ok k = record { stays = polished-keeps h ceiling s.stack (Stays s.stack) (stays-go s.stack) s.block k.stays; unfixed = tt }
    kept-call s call_a ok k = kept-settled (refuses_a h s s.stack) s (does_a h ceiling s) k (kept-A s s.stack refl ok k)

  kept_fresh : Kept (fresh h)
  unfolding fresh representative climb
  kept_fresh = record { stays = λ x l u e. refl; unfixed = tt }

-- ---- a sale: a kept lot of the present catalogue stands in its session of the loaded draft
module _ (limits : Limits) (h₀ : Hypergraph) where
  pub record KeptIn (a : Sale) : Type 0 where
    pub kept : Kept a.graph a.state
    pub drafts : (x : ℕ) → 1 ≤ x → x ≤ vertices a.graph → fixed_entry a.graph x ≡ 1 → drafted a.graph x ≡ drafted h₀ x

  module _ (a : Sale) (valid : Valid limits a) (k : KeptIn a) (none : a.state.stack ≡ []) (v bales session : ℕ) (nets : List Net) (vl : 1 ≤ v) (vu : v ≤ suc (vertices a.graph)) where
    abbrev h : Hypergraph
    h = a.graph

    abbrev next : Hypergraph
    next = changed_at h a.state.block v bales session nets

    not-fixed : fixed_entry next v ≡ 0
    unfolding changed_at
    not-fixed = put-at h.fixed (v - 1) 0 (omega (arith, valid.ranges.loaded.fixed-long))

    fixed-other : (x : ℕ) → 1 ≤ x → (x ≡ v → ⊥) → fixed_entry next x ≡ fixed_entry h x
    unfolding changed_at
    fixed-other x l n = put_other h.fixed (v - 1) 0 (x - 1) (omega (arith, valid.ranges.loaded.fixed-long)) (λ e. n (omega arith))

    still : (x : ℕ) → 1 ≤ x → x ≤ vertices h → fixed_entry h x ≡ 1 → a.state.block x ≡ drafted h x
    still x l u q = ap a.state.block (sym (representative-none x)) ∙ subst (λ (cs : List Contraction). Stays h cs a.state.block) none k.kept.stays x l u q

    kept-change : (free : List ℕ) → KeptIn (record { graph = next; free = free; changed = true; state = fresh next })
    kept-change free = record {
      kept = kept_fresh next;
      drafts = λ x l u q. go x l u q (ℕ_discrete x v);
    }
      where
        go : (x : ℕ) → 1 ≤ x → x ≤ vertices next → fixed_entry next x ≡ 1 → Dec (x ≡ v) → drafted next x ≡ drafted h₀ x
        go x l u q (yes e) = absurd (omega (arith, q, ap (fixed_entry next) e, not-fixed))
        go x l u q (no n) =
            let w = known h a.state.block v bales session nets vl vu x u n in
            let f = sym (fixed-other x l n) ∙ q in
            drafted-other h a.state.block v bales session nets vl vu x l w n ∙ still x l w f ∙ k.drafts x l w f

  pub kept-X : (a : Sale) → Valid limits a → KeptIn a → (v : ℕ) → refuses_x a.graph a.state v ≡ 0 → KeptIn (does_x a v).sale
  unfolding does_x withdrawn
  kept-X a valid k v q = let t = X-told limits a valid v q in kept-change a valid k t.0 v 0 0 (nets_without v a.graph.nets) t.1 (omega (arith, t.2)) (v ∷ a.free)

  pub kept-N : (a : Sale) → Valid limits a → KeptIn a → (space : Space) (bales session : ℕ) (buyers : List ℕ) → refuses_n space a.graph (capacities a.graph) a.state bales session buyers ≡ 0
      → KeptIn (does_n a bales session buyers).sale
  unfolding does_n added
  kept-N a valid k space bales session buyers q =
      let t = N-told-in limits a valid space bales session buyers q in
      kept-change a valid k t.0 (number_for a.graph a.free) bales session (nets_with (number_for a.graph a.free) buyers 1 a.graph.nets) t.1 t.2 (drop 1 a.free)

  kept-turn : (a : Sale) → Valid limits a → KeptIn a → (c : Request) → KeptIn (turn limits a c).sale
  unfolding turn_under ran
  kept-turn a valid k (runs c) = record { kept = kept-call a.graph (capacities a.graph) a.state c valid.held.legal k.kept; drafts = k.drafts }
  kept-turn a valid k (call_x v) = turned-keeps limits KeptIn (refuses_x a.graph a.state v) a (does_x a v) k (kept-X a valid k v)
  kept-turn a valid k (call_n bales session buyers) =
      turned-keeps limits KeptIn (refuses_n (space_of limits) a.graph (capacities a.graph) a.state bales session buyers) a (does_n a bales session buyers) k
      (kept-N a valid k (space_of limits) bales session buyers)

  -- as loading leaves it
  pub kept-opened : KeptIn (opened h₀)
  kept-opened = record { kept = kept_fresh h₀; drafts = λ x l u q. refl }

  kept-after : (a : Sale) (calls : List Request) → Valid limits a → KeptIn a → KeptIn (after limits a calls)
  unfolding after
  kept-after a [] valid k = k
  kept-after a (c ∷ cs) valid k = kept-after (turn limits a c).sale cs (valid-turn limits a valid c) (kept-turn a valid k c)

  -- after every list of call lines a kept lot, not withdrawn since, stands in its session of the draft
  pub fixed-stays : Few limits → Accepted limits h₀ → (calls : List Request) → KeptIn (reached_by limits h₀ calls)
  unfolding after
  fixed-stays few a calls = kept-after (opened h₀) calls (reached limits few h₀ a []) kept-opened
