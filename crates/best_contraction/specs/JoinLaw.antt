-- The best pair of all rows, by scores; a row that has none; and that the first of the highest rows has the best pair.
-- Rests on RatingLaw and PartnerLaw. Assumes nothing.
use Rattle.std.specs.Prelude.{◌≡◌, refl, Bool, true, false, ◌&&◌, List, ℕ, zero, suc, ◌+◌, ◌-◌, ◌*◌, ◌≤◌, ◌<◌, ltb, leb}
use Rattle.std.proofs.Common.{sym, ◌∙◌, mul-zero, arith, ne_eqb, lt-ltb, le-ltb}
use Rattle.std.proofs.Math.Path.{ap}
use Rattle.std.proofs.Math.Bool.{and-false, cond}
use Rattle.std.proofs.Math.Decide.{ℕ_discrete, dec_lt}
use Rattle.std.proofs.Math.ListN.{get_or}
use Rattle.laws.specs.Choice.{cond-le}
use Rattle.laws.specs.Occurrence.{at, occ-none}
use Rattle.best_contraction.specs.Rating.{near, fits, term_of, row_of, own_sum, score_in, score_of, TablesOk, Blank, Holds, Cleared}
use Rattle.best_contraction.specs.RatingLaw.{over-nil, row-own, row_ok}
use Rattle.best_contraction.specs.PartnerLaw.{top_to, top-ext}
use Rattle.best_contraction.specs.declared.join.Partner.{Partner}
use Rattle.best_contraction.specs.declared.join.Join.{Join}

-- ---- the best pair

-- one more row, of which p is the best
unfoldable pub joined : ℕ → Partner → Join → Join
joined u p b = cond (ltb b.rating p.rating) (record { rating = p.rating; into = u; gone = p.vertex }) b

pub joined-new : (u : ℕ) (p : Partner) (b : Join) → b.rating < p.rating → record { rating = p.rating; into = u; gone = p.vertex } ≡ joined u p b
unfolding joined
joined-new u p b h = rw (lt-ltb b.rating p.rating h)

pub joined-old : (u : ℕ) (p : Partner) (b : Join) → p.rating ≤ b.rating → b ≡ joined u p b
unfolding joined
joined-old u p b h = rw (le-ltb b.rating p.rating h)

-- the contract of `best_partner`
pub record PartnerOf (score : ℕ → ℕ) (n : ℕ) (l' : List ℕ) (p : Partner) : Type 0 where
  pub best : p ≡ top_to score n
  pub clear : Blank l'

cond-none : (b : Bool) → cond {A = ℕ} b 0 0 ≡ 0
cond-none true = refl
cond-none false = refl

-- added up, weighed and cleared
module _ (bits pins firsts sizes net_weights blocks weights : List ℕ) (m n limit u : ℕ) (ok : TablesOk bits pins firsts sizes net_weights blocks m n) where
  abbrev whole : ℕ → ℕ
  whole = row_of bits pins firsts sizes net_weights u m

  abbrev test : ℕ → Bool
  test = fits blocks weights u (get_or blocks (u - 1) 0) (get_or weights (u - 1) 0) limit

  abbrev points : ℕ → ℕ
  points = score_in test whole

  -- a vertex that is a pin of no net has no rating
  unmet : (z : ℕ) → ((g : ℕ) → g < m → (i : ℕ) → i < get_or sizes g 0 → at pins (get_or firsts g 0) i ≡ z → ⊥) → whole z ≡ 0
  unmet z no_pin = over-nil bits (u - 1) m _ (λ g h. ap (λ (k : ℕ). term_of (get_or net_weights g 0) (get_or sizes g 0) * k) (occ-none pins (get_or firsts g 0) (get_or sizes g 0) z (no_pin g h)) ∙ mul-zero (term_of (get_or net_weights g 0) (get_or sizes g 0)))

  pub partner-law : (l1 l2 : List ℕ) (p : Partner) → Holds l1 whole → p ≡ top_to (score_in test (λ z. get_or l1 z 0)) n → Cleared l1 l2 n
      → PartnerOf (score_of bits pins firsts sizes net_weights blocks weights m limit u) n l2 p
  unfolding score_of
  partner-law l1 l2 p h e c = record {
    best = e ∙ top-ext (score_in test (λ z. get_or l1 z 0)) points (λ z. ap (λ (k : ℕ). cond (test z) k 0) (h.here z)) n;
    clear = record { len = c.len; zeros = λ z. zeros z (ℕ_discrete z 0) (dec_lt n z) };
  }
    where
      -- pins are vertices, so that no other place was raised
      beyond : (z : ℕ) → (1 ≤ z → z ≤ n → ⊥) → get_or l2 z 0 ≡ 0
      beyond z out = c.still z (h.here z ∙ unmet z (λ g l i k q. out (omega (arith, (ok.pin g l i k).0)) (omega (arith, (ok.pin g l i k).1))))

      zeros : (z : ℕ) → Dec (z ≡ 0) → Dec (n < z) → get_or l2 z 0 ≡ 0
      zeros z (yes q) k = beyond z (λ a b. omega arith)
      zeros z (no q) (yes k) = beyond z (λ a b. omega arith)
      zeros z (no q) (no k) = c.gone z (omega arith) (omega arith)

  -- a vertex of block 0 has no partner: every pin is in some block
  pub idle : get_or blocks (u - 1) 0 ≡ 0 → (z : ℕ) → points z ≡ 0
  idle e z = go (ℕ_discrete (get_or blocks (z - 1) 0) 0)
    where
      go : Dec (get_or blocks (z - 1) 0 ≡ 0) → points z ≡ 0
      go (yes q) = ap (λ (k : ℕ). cond (test z) k 0) (unmet z (λ g h i k w. omega (arith, (ok.pin g h i k).2, ap (λ (y : ℕ). get_or blocks (y - 1) 0) w))) ∙ cond-none (test z)
      go (no q) =
          let apart : near blocks u (get_or blocks (u - 1) 0) z ≡ false = ap (λ (b : Bool). ltb u z && b) (ne_eqb (get_or blocks (z - 1) 0) (get_or blocks (u - 1) 0) (λ w. q (w ∙ e))) ∙ and-false (ltb u z) in
          ap (λ (b : Bool). cond (b && leb (get_or weights (u - 1) 0 + get_or weights (z - 1) 0) limit) (whole z) 0) apart

  -- no rating passes the sum of the terms of u's own nets
  pub score-own : (z : ℕ) → score_of bits pins firsts sizes net_weights blocks weights m limit u z ≤ own_sum bits sizes net_weights u m
  unfolding score_of
  score-own z = omega (arith, cond-le (test z) (whole z) (whole z) (omega arith), row-own bits pins firsts sizes net_weights u m (row_ok ok) z)

-- the best pair of the rows 1 .. k, each of n places
unfoldable pub join_to : (ℕ → ℕ → ℕ) → ℕ → ℕ → Join
join_to score n zero = record { rating = 0; into = 0; gone = 0 }
join_to score n (suc k) = joined (suc k) (top_to (score (suc k)) n) (join_to score n k)

-- with no row higher than b, the best pair is not
pub join-under : (score : ℕ → ℕ → ℕ) (n b k : ℕ) → ((x : ℕ) → 1 ≤ x → x ≤ k → (top_to (score x) n).rating ≤ b) → (join_to score n k).rating ≤ b
unfolding join_to joined
join-under score n b zero h = omega arith
join-under score n b (suc k) h = go (join-under score n b k (λ x l q. h x l (omega arith))) (ltb (join_to score n k).rating (top_to (score (suc k)) n).rating)
  where
    go : (join_to score n k).rating ≤ b → (t : Bool) → (cond t (record { rating = (top_to (score (suc k)) n).rating; into = suc k; gone = (top_to (score (suc k)) n).vertex }) (join_to score n k)).rating ≤ b
    go old true = h (suc k) (omega arith) (omega arith)
    go old false = old

-- the best pair of row u
abbrev pub pair_of : (ℕ → ℕ → ℕ) → ℕ → ℕ → Join
pair_of score n u = record { rating = (top_to (score u) n).rating; into = u; gone = (top_to (score u) n).vertex }

-- where row u is higher than all before it and no row after it is higher still, its pair is the best
pub join-at : (score : ℕ → ℕ → ℕ) (n u : ℕ) → ((x : ℕ) → 1 ≤ x → x < u → (top_to (score x) n).rating < (top_to (score u) n).rating) → 1 ≤ u → 1 ≤ (top_to (score u) n).rating
    → (k : ℕ) → u ≤ k → ((x : ℕ) → 1 ≤ x → x ≤ k → (top_to (score x) n).rating ≤ (top_to (score u) n).rating) → join_to score n k ≡ pair_of score n u
unfolding join_to
join-at score n u first low some zero h most = absurd (omega arith)
join-at score n u first low some (suc k) h most = go (λ l. join-at score n u first low some k l (λ x a b. most x a (omega arith))) (ℕ_discrete u (suc k))
  where
    go : (u ≤ k → join_to score n k ≡ pair_of score n u) → Dec (u ≡ suc k) → joined (suc k) (top_to (score (suc k)) n) (join_to score n k) ≡ pair_of score n u
    go old (yes q) =
        let below : (join_to score n k).rating ≤ (top_to (score u) n).rating - 1 = join-under score n ((top_to (score u) n).rating - 1) k (λ x a b. omega (arith, first x a (omega arith))) in
        sym (joined-new (suc k) (top_to (score (suc k)) n) (join_to score n k) (omega (arith, ap (λ (x : ℕ). (top_to (score x) n).rating) q))) ∙ ap (pair_of score n) (sym q)
    go old (no q) = ap (joined (suc k) (top_to (score (suc k)) n)) (old (omega arith)) ∙ sym (joined-old (suc k) (top_to (score (suc k)) n) (pair_of score n u) (most (suc k) (omega arith) (omega arith)))
