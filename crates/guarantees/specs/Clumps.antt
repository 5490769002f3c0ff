-- The metric with contractions is that of the uncontracted hypergraph with each vertex in its representative's block (metric-out), and the gain of a
-- vertex is the effect on it of moving all vertices that it stands for (gain-out). Rests on Moves and Climbs. Assumes nothing.
use Prim.Native.Nat.{ℕ, ◌-◌, ◌*◌, ◌≤◌}
use Rattle.std.proofs.Math.Decide.{ℕ_discrete}
use Rattle.std.proofs.Common.{arith, ap₂, ◌∙◌}
use Rattle.std.specs.Prelude.{◌≡◌, ◌||◌, ◌&&◌, pos, ◌-ℤ◌, get_or}
use Rattle.std.proofs.Math.Path.{refl, sym, ap}
use Rattle.std.proofs.Math.Bool.{Bool, true, false, and-false}
use mathlib.Core.List.{List, [], ◌∷◌}
use borrow.Author.Tests.{eq-eqb, ne_eqb, eqb-true, lt-ltb, le-ltb}
use Rattle.std.proofs.Math.Dec.{eqb, ltb}
use Rattle.laws.specs.Choice.{one, cond_yes, cond_no}
use Rattle.laws.specs.Sum.{sum_to, count_to, sum_to-ext, sum_to-term, sum_to-nil}
use Rattle.laws.specs.Fold.{any, any-ext, any_at, All, sum_over-all, all_map, all-get}
use Rattle.laws.specs.Place.{place}
use Rattle.model.specs.Catalogue.{Net, Hypergraph, vertices, in_sale}
use Rattle.model.specs.Measure.{Contraction, above, on_board, climb, representative, pin, pin_count, connectivity, metric, gain}
use Rattle.guarantees.specs.Moves.{metric-gain}
use Rattle.guarantees.specs.Board.{board-is}
use Rattle.guarantees.specs.Climbs.{Sound, representative-on, representative-join}
use Rattle.guarantees.specs.Splits.{AllInside}

-- every pin is a vertex
abbrev pub Within : ℕ → Net → Type 0
Within n e = All e.pins (λ x. (1 ≤ x) × (x ≤ n))

-- a representative is a vertex
pub representative-in : (h : Hypergraph) (cs : List Contraction) → Sound cs → AllInside h cs → (x : ℕ) → 1 ≤ x → x ≤ vertices h → (1 ≤ representative cs x) × (representative cs x ≤ vertices h)
unfolding representative climb
representative-in h [] s a x l u = (l, u)
representative-in h (c ∷ cs) s a x l u = go (representative-in h cs s.1 a.1 x l u) (ℕ_discrete (representative cs x) c.gone)
  where
    go : (1 ≤ representative cs x) × (representative cs x ≤ vertices h) → Dec (representative cs x ≡ c.gone) → (1 ≤ representative (c ∷ cs) x) × (representative (c ∷ cs) x ≤ vertices h)
    go ih (yes q) = omega (arith, a.0, representative-join cs c s x ∙ cond_yes _ _ _ _ q)
    go ih (no n) = omega (arith, ih, representative-join cs c s x ∙ cond_no _ _ _ _ n)

-- it is in the sale where what it stands for is
pub representative-sale : (h : Hypergraph) (cs : List Contraction) → Sound cs → AllInside h cs → (x : ℕ) → in_sale h x ≡ true → in_sale h (representative cs x) ≡ true
unfolding representative climb
representative-sale h [] s a x q = q
representative-sale h (c ∷ cs) s a x q = go (representative-sale h cs s.1 a.1 x q) (ℕ_discrete (representative cs x) c.gone)
  where
    go : in_sale h (representative cs x) ≡ true → Dec (representative cs x ≡ c.gone) → in_sale h (representative (c ∷ cs) x) ≡ true
    go ih (yes q) = ap (in_sale h) (representative-join cs c s x ∙ cond_yes _ _ _ _ q) ∙ a.0.4
    go ih (no n) = ap (in_sale h) (representative-join cs c s x ∙ cond_no _ _ _ _ n) ∙ ih

-- a present pin is on the board, where the loaded pins are in the sale
pub pin-board : (h : Hypergraph) (cs : List Contraction) → Sound cs → AllInside h cs → (e : Net) → All e.pins (λ x. in_sale h x ≡ true) → (v : ℕ) → pin cs e v ≡ true → on_board h cs v ≡ true
unfolding pin
pin-board h cs s a e w v q =
    let i = any_at e.pins 0 (λ x. eqb (representative cs x) v) q in
    let x : ℕ = get_or e.pins i.0 0 in
    let r : representative cs x ≡ v = eqb-true (representative cs x) v i.2 in
    board-is h cs v (ap (above cs) (sym r) ∙ representative-on cs s x) (ap (in_sale h) (sym r) ∙ representative-sale h cs s a x (all-get e.pins _ 0 w i.0 i.1))

-- vertices x of a list that pass B, each counted at r x: some are counted where some pass
module _ (n : ℕ) (r : ℕ → ℕ) (B : ℕ → Bool) where
  abbrev hit : List ℕ → ℕ → Bool
  hit l v = any l (λ x. eqb (r x) v && B x)

  or-first : (a b : Bool) → a ≡ true → one (a || b) ≡ 1
  or-first a b q = ap (λ (x : Bool). one (x || b)) q

  spread : (l : List ℕ) → All l (λ x. (1 ≤ r x) × (r x ≤ n)) → ltb 0 (count_to n (hit l)) ≡ any l B
  unfolding any
  spread [] a = le-ltb 0 (sum_to n (λ v. 0)) (omega (arith, sum_to-nil n (λ v. 0) (λ i _ _. refl)))
  spread (x ∷ l) a = go (spread l a.1) (B x) refl
    where
      go : ltb 0 (count_to n (hit l)) ≡ any l B → (b : Bool) → B x ≡ b → ltb 0 (count_to n (hit (x ∷ l))) ≡ (b || any l B)
      go ih true q = lt-ltb 0 (count_to n (hit (x ∷ l))) (omega (arith, sum_to-term n (r x) (λ v. one (hit (x ∷ l) v)) a.0.0 a.0.1, or-first (eqb (r x) (r x) && B x) (hit l (r x)) (ap₂ (λ (s t : Bool). s && t) (eq-eqb (r x) (r x) refl) q)))
      go ih false q = ap (λ (k : ℕ). ltb 0 k) (sum_to-ext n (λ v. one (hit (x ∷ l) v)) (λ v. one (hit l v)) (λ v _ _. ap (λ (b : Bool). one (b || hit l v)) (ap (λ (t : Bool). eqb (r x) v && t) q ∙ and-false (eqb (r x) v)))) ∙ ih

any-and : {A : Type 0} (l : List A) (f : A → Bool) (k : Bool) → (any l f && k) ≡ any l (λ x. f x && k)
unfolding any
any-and [] f k = refl
any-and (x ∷ l) f k = go (f x) (any-and l f k)
  where
    go : (b : Bool) → (any l f && k) ≡ any l (λ x. f x && k) → ((b || any l f) && k) ≡ ((b && k) || any l (λ x. f x && k))
    go true ih = or_self k (any l f) ih
      where
        or_self : (k : Bool) (m : Bool) → (m && k) ≡ any l (λ x. f x && k) → k ≡ (k || any l (λ x. f x && k))
        or_self true m q = refl
        or_self false m q = sym (and-false m) ∙ q
    go false ih = ih

module _ (h : Hypergraph) (cs : List Contraction) (p : ℕ → ℕ) (e : Net) where
  -- a block is in the connectivity set if some loaded pin's representative is in it
  pub visited-any : All e.pins (λ x. (1 ≤ representative cs x) × (representative cs x ≤ vertices h)) → (b : ℕ) → ltb 0 (pin_count h cs p e b) ≡ any e.pins (λ x. eqb (p (representative cs x)) b)
  unfolding pin_count pin
  visited-any a b = ap (λ (k : ℕ). ltb 0 k) (sum_to-ext (vertices h) (λ v. one (pin cs e v && eqb (p v) b)) (λ v. one (hit (vertices h) (representative cs) B e.pins v)) (λ v _ _. ap one (any-and e.pins (λ x. eqb (representative cs x) v) (eqb (p v) b) ∙ any-ext e.pins _ _ (same v)))) ∙ spread (vertices h) (representative cs) B e.pins a
    where
      B : ℕ → Bool
      B x = eqb (p (representative cs x)) b

      same : (v x : ℕ) → (eqb (representative cs x) v && eqb (p v) b) ≡ (eqb (representative cs x) v && eqb (p (representative cs x)) b)
      same v x = go (ℕ_discrete (representative cs x) v)
        where
          go : Dec (representative cs x ≡ v) → (eqb (representative cs x) v && eqb (p v) b) ≡ (eqb (representative cs x) v && eqb (p (representative cs x)) b)
          go (yes q) = ap (λ (y : ℕ). eqb (representative cs x) v && eqb (p y) b) (sym q)
          go (no n) = ap (λ (t : Bool). t && eqb (p v) b) (ne_eqb _ _ n) ∙ sym (ap (λ (t : Bool). t && eqb (p (representative cs x)) b) (ne_eqb _ _ n))

-- each vertex in its representative's block
abbrev pub spread_out : List Contraction → (ℕ → ℕ) → ℕ → ℕ
spread_out cs p x = p (representative cs x)

module _ (h : Hypergraph) (cs : List Contraction) (s : Sound cs) (a : AllInside h cs) (p : ℕ → ℕ) where
  pub connectivity-out : (e : Net) → Within (vertices h) e → connectivity h cs p e ≡ connectivity h [] (spread_out cs p) e
  unfolding connectivity representative climb
  connectivity-out e w = sum_to-ext h.blocks _ _ (λ b _ _. ap one (visited-any h cs p e (all_map e.pins _ _ (λ x r. representative-in h cs s a x r.0 r.1) w) b ∙ sym (visited-any h [] (spread_out cs p) e w b)))

  -- the metric with contractions, as one without
  pub metric-out : All h.nets (Within (vertices h)) → metric h cs p ≡ metric h [] (spread_out cs p)
  unfolding metric
  metric-out w = sum_over-all h.nets (Within (vertices h)) _ _ w (λ e r. ap (λ (y : ℕ). e.weight * (y - 1)) (connectivity-out e r))

module _ (h : Hypergraph) (cs : List Contraction) (s : Sound cs) (a : AllInside h cs) (p : ℕ → ℕ) where
  -- the gain of a vertex on the board, as its whole clump's effect on the uncontracted hypergraph
  pub gain-out : All h.nets (Within (vertices h)) → (v t : ℕ) → 1 ≤ v → v ≤ vertices h → 1 ≤ p v → p v ≤ h.blocks → 1 ≤ t → t ≤ h.blocks → (p v ≡ t → ⊥) → pos (metric h [] (spread_out cs (place p v t))) ≡ pos (metric h [] (spread_out cs p)) -ℤ gain h cs p v t
  gain-out w v t vl vu sl su tl tu away =
      ap pos (sym (metric-out-at (place p v t)))
      ∙ metric-gain h cs p v t vl vu sl su tl tu away
      ∙ ap (λ (n : ℕ). pos n -ℤ gain h cs p v t) (metric-out-at p)
    where
      metric-out-at : (q : ℕ → ℕ) → metric h cs q ≡ metric h [] (spread_out cs q)
      metric-out-at q = metric-out h cs s a q w
