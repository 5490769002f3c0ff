-- Uncontraction leaves what contraction leaves (Joins, Weights): the metric (metric-split) and every block's weight
-- (block_weight-split); each undoes the other (split-join, join-split). With no contraction standing a net's pins are its loaded
-- ones (pin-none) and a vertex has its loaded weight (weight-none). Rests on Joins and Weights. Assumes nothing.
use Rattle.std.specs.Prelude.{ℕ, ◌≤◌, ◌≡◌, refl, Bool, true, cond, ◌&&◌, List, [], ◌∷◌, eqb}
use Rattle.std.proofs.Math.Decide.{ℕ_discrete}
use Rattle.std.proofs.Common.{arith, ◌∙◌, true≢false, eq-eqb, ne_eqb}
use Rattle.std.proofs.Math.Path.{sym, ap}
use Rattle.laws.specs.Fold.{any, any-ext}
use Rattle.laws.specs.Sum.{sum_to-change, sum_to-nil, sum_to, sum_to-ext}
use Rattle.laws.specs.Place.{place, place_at, place-off, place-back, place_twice, place_same}
use Rattle.model.specs.Catalogue.{Net, Hypergraph, vertices, loaded, in_sale}
use Rattle.model.specs.Measure.{Contraction, above, climb, representative, pin, weight, block_weight, metric, is_top, on_board}
use Rattle.model.specs.Machine.{uncontract}
use Rattle.guarantees.specs.Climbs.{Joins, Sound, above-gone, above_other}
use Rattle.guarantees.specs.Board.{board-top, board-is, board-under, board-other}
use Rattle.guarantees.specs.Joins.{metric-join}
use Rattle.guarantees.specs.Weights.{block_weight-join}
use Rattle.guarantees.specs.Ends.{Placed, At}

module _ (h : Hypergraph) where
  -- a contraction of two vertices of the hypergraph that are in the sale, and a stack of such
  abbrev pub Inside : Contraction → Type 0
  Inside c = (1 ≤ c.into) × (c.into ≤ vertices h) × (1 ≤ c.gone) × (c.gone ≤ vertices h) × (in_sale h c.into ≡ true) × (in_sale h c.gone ≡ true)

  abbrev pub AllInside : List Contraction → Type 0
  AllInside [] = Unit {0}
  AllInside (c ∷ cs) = Inside c × AllInside cs

  -- every vertex on the board keeps a block, and one off it has 0
  pub placed-join : (cs : List Contraction) (c : Contraction) (p : ℕ → ℕ) → Joins cs c → Placed h cs p → Placed h (c ∷ cs) (place p c.gone 0)
  placed-join cs c p j ok x xl xu = go (ℕ_discrete x c.gone)
    where
      go : Dec (x ≡ c.gone) → At h (c ∷ cs) (place p c.gone 0) x
      go (yes q) = record {
        board = λ o. absurd (omega (arith, j.real, above-gone cs c x (sym q), board-top h (c ∷ cs) x o));
        off = λ o. ap (place p c.gone 0) q ∙ place_at p c.gone 0;
      }
      go (no n) = record {
        board = λ o. omega (arith, place-off p c.gone 0 x n, (ok x xl xu).board (sym (board-other h cs c x (λ r. n (sym r))) ∙ o));
        off = λ o. place-off p c.gone 0 x n ∙ (ok x xl xu).off (sym (board-other h cs c x (λ r. n (sym r))) ∙ o);
      }

  pub into-on : (cs : List Contraction) (c : Contraction) → Joins cs c → above (c ∷ cs) c.into ≡ 0
  into-on cs c j = above_other cs c c.into (λ r. j.two (sym r)) ∙ j.into-on

  pub placed-split : (cs : List Contraction) (c : Contraction) (p : ℕ → ℕ) → Joins cs c → Inside c → Placed h (c ∷ cs) p → Placed h cs (uncontract p c)
  unfolding uncontract
  placed-split cs c p j r ok x xl xu = go (ℕ_discrete x c.gone)
    where
      go : Dec (x ≡ c.gone) → At h cs (place p c.gone (p c.into)) x
      go (yes q) = record {
        board = λ o. omega (arith, ap (place p c.gone (p c.into)) q, place_at p c.gone (p c.into), (ok c.into r.0 r.1).board (board-is h (c ∷ cs) c.into (into-on cs c j) r.4));
        off = λ o. absurd (true≢false (sym (board-is h cs c.gone j.gone-on r.5) ∙ ap (on_board h cs) (sym q) ∙ o));
      }
      go (no n) = record {
        board = λ o. omega (arith, place-off p c.gone (p c.into) x n, (ok x xl xu).board (board-other h cs c x (λ r. n (sym r)) ∙ o));
        off = λ o. place-off p c.gone (p c.into) x n ∙ (ok x xl xu).off (board-other h cs c x (λ r. n (sym r)) ∙ o);
      }

module _ (h : Hypergraph) (cs : List Contraction) (c : Contraction) (s : Sound (c ∷ cs)) (r : Inside h c) (p : ℕ → ℕ) where
  -- the parted vertex returns in its partner's block
  pub together : uncontract p c c.into ≡ uncontract p c c.gone
  unfolding uncontract
  together = place-off p c.gone (p c.into) c.into s.0.two ∙ sym (place_at p c.gone (p c.into))

  -- contracted again, it leaves the partition as it was
  pub split-join : Placed h (c ∷ cs) p → place (uncontract p c) c.gone 0 ≡ p
  unfolding uncontract
  split-join ok = ap (place (place p c.gone (p c.into)) c.gone) (sym zero-there) ∙ place-back p c.gone (p c.into)
    where
      zero-there : p c.gone ≡ 0
      zero-there = (ok c.gone r.2 r.3).off (board-under h (c ∷ cs) c.gone (λ o. omega (arith, s.0.real, above-gone cs c c.gone refl)))

  pub block_weight-split : Placed h (c ∷ cs) p → (b : ℕ) → block_weight h cs (uncontract p c) b ≡ block_weight h (c ∷ cs) p b
  block_weight-split ok b =
      sym (block_weight-join h cs c s (uncontract p c) r.0 r.1 r.2 r.3 together b)
      ∙ ap (λ (q : ℕ → ℕ). block_weight h (c ∷ cs) q b) (split-join ok)

  pub metric-split : Placed h (c ∷ cs) p → metric h cs (uncontract p c) ≡ metric h (c ∷ cs) p
  metric-split ok = sym (metric-join h cs c s (uncontract p c) r.0 r.1 r.2 r.3 together) ∙ ap (metric h (c ∷ cs)) (split-join ok)

-- two vertices of one block, contracted and parted again
pub join-split : (c : Contraction) (p : ℕ → ℕ) → (c.into ≡ c.gone → ⊥) → p c.into ≡ p c.gone → uncontract (place p c.gone 0) c ≡ p
unfolding uncontract
join-split c p two one_block = λ i x. (
    place_twice p c.gone 0 (place p c.gone 0 c.into) x
    ∙ place_same p c.gone (place p c.gone 0 c.into) x (sym (place-off p c.gone 0 c.into two ∙ one_block))) i

-- ---- no contraction stands
pub representative-none : (x : ℕ) → representative [] x ≡ x
unfolding representative climb
representative-none x = refl

pub pin-none : (e : Net) (v : ℕ) → pin [] e v ≡ any e.pins (λ x. eqb x v)
unfolding pin
pin-none e v = any-ext e.pins _ _ (λ x. ap (λ (y : ℕ). eqb y v) (representative-none x))

pub weight-none : (h : Hypergraph) (v : ℕ) → 1 ≤ v → v ≤ vertices h → weight h [] v ≡ loaded h v
unfolding weight
weight-none h v l u = omega (
  arith,
  sum_to-change (vertices h) v (λ x. cond (eqb (representative [] x) v) (loaded h x) 0) (λ x. 0) l u (λ x _ _ ne. ap (λ (b : Bool). cond b (loaded h x) 0) (ne_eqb (representative [] x) v (λ q. ne (sym (representative-none x) ∙ q)))),
  sum_to-nil (vertices h) (λ x. 0) (λ i _ _. refl),
  ap (λ (b : Bool). cond b (loaded h v) 0) (eq-eqb (representative [] v) v (representative-none v)),
)

pub above-none : (v : ℕ) → above [] v ≡ 0
unfolding above
above-none v = refl

pub board-none : (v : ℕ) → is_top [] v ≡ true
unfolding above
board-none v = refl

-- a block's weight is the sum of its vertices' loaded weights
pub block_weight-none : (h : Hypergraph) (p : ℕ → ℕ) (b : ℕ) → block_weight h [] p b ≡ sum_to (vertices h) (λ u. cond (eqb (p u) b) (loaded h u) 0)
unfolding block_weight
block_weight-none h p b = sum_to-ext (vertices h) _ _ (λ u l k.
    ap (λ (t : Bool). cond (t && eqb (p u) b) (weight h [] u) 0) (board-none u) ∙ ap (λ (w : ℕ). cond (eqb (p u) b) w 0) (weight-none h u l k))
