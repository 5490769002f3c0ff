-- A move changes the connectivity metric by minus its gain: the metric after it is the one before it less the gain (metric-gain),
-- and the move back has the negated gain (gain-back). Net by net: pin counts (count-move) and connectivity (connectivity-move).
-- Rests on laws' sums and integers. Assumes nothing.
use Rattle.std.specs.Prelude.{ℕ, zero, suc, ◌+◌, ◌-◌, ◌*◌, ◌≤◌, ◌≡◌, refl, Bool, false, ◌&&◌, List, ltb, neg_ℤ, ◌-ℤ◌}
use native.Mathlib.Omega.{arith}
use Rattle.std.proofs.Common.{sym, ◌∙◌, subst, eq-eqb, ne_eqb, lt-ltb}
use Rattle.std.proofs.Math.Path.{ap}
use Rattle.std.proofs.Math.Bool.{true, cond}
use Rattle.std.proofs.Math.Dec.{eqb}
use Rattle.std.proofs.Math.IntN.{pos}
use Rattle.laws.specs.Integer.{up, dn, eq-by, pos-is, sub_is, neg_is}
use Rattle.laws.specs.Choice.{one}
use Rattle.laws.specs.Sum.{sum_to-ext, sum_to-change, sum_to-change2, sum_to-term}
use Rattle.laws.specs.Fold.{sum_over-both}
use Rattle.laws.specs.Place.{place, place_at, place-off, place-back}
use Rattle.model.specs.Catalogue.{Net, Hypergraph, vertices}
use Rattle.model.specs.Measure.{Contraction, pin, pin_count, connectivity, metric, freed, drawn, gain}

-- visited or a count of 0; visited or a count of 1 before one left
seen-zero : (c : ℕ) → one (ltb 0 c) + one (eqb c 0) ≡ 1
seen-zero zero = refl
seen-zero (suc n) = rw (lt-ltb 0 (suc n) (omega arith), ne_eqb (suc n) 0 (λ q. omega arith)) refl

seen_one : (c d : ℕ) → d ≡ c + 1 → one (ltb 0 c) + one (eqb d 1) ≡ 1
seen_one zero d q = rw (eq-eqb d 1 (omega arith)) refl
seen_one (suc n) d q = rw (lt-ltb 0 (suc n) (omega arith), ne_eqb d 1 (λ r. omega arith)) refl

seen : (c : ℕ) → 1 ≤ c → one (ltb 0 c) ≡ 1
seen c l = ap one (lt-ltb 0 c l)

-- w * (x - 1), by how x changes
costs : (w x y : ℕ) (a d : Bool) → x + one d ≡ y + one a → w * y + cond a w 0 ≡ w * x + cond d w 0
costs w x y true true q = ap (λ (z : ℕ). w * z + w) (omega arith)
costs w x y true false q = rw (step) (omega arith)
  where
    step : x ≡ y + 1
    step = omega arith
costs w x y false true q = rw (step) (omega arith)
  where
    step : y ≡ x + 1
    step = omega arith
costs w x y false false q = ap (λ (z : ℕ). w * z + 0) (omega arith)

module _ (h : Hypergraph) (cs : List Contraction) (p : ℕ → ℕ) (v t : ℕ) (vl : 1 ≤ v) (vu : v ≤ vertices h) where
  pub count-move : (e : Net) (b : ℕ) → pin_count h cs p e b + one (pin cs e v && eqb t b) ≡ pin_count h cs (place p v t) e b + one (pin cs e v && eqb (p v) b)
  unfolding pin_count
  count-move e b =
      ap (λ (x : ℕ). pin_count h cs p e b + one (pin cs e v && eqb x b)) (sym (place_at p v t))
      ∙ sum_to-change (vertices h) v (λ x. one (pin cs e x && eqb (p x) b)) (λ x. one (pin cs e x && eqb (place p v t x) b)) vl vu
      (λ j _ _ ne. ap (λ (y : ℕ). one (pin cs e j && eqb y b)) (sym (place-off p v t j ne)))

  count_by : (e : Net) (b : ℕ) (m : Bool) → pin cs e v ≡ m → pin_count h cs p e b + one (m && eqb t b) ≡ pin_count h cs (place p v t) e b + one (m && eqb (p v) b)
  count_by e b m q = subst (λ (x : Bool). pin_count h cs p e b + one (x && eqb t b) ≡ pin_count h cs (place p v t) e b + one (x && eqb (p v) b)) q (count-move e b)

  -- v goes from its block to another
  module _ (sl : 1 ≤ p v) (su : p v ≤ h.blocks) (tl : 1 ≤ t) (tu : t ≤ h.blocks) (away : p v ≡ t → ⊥) (e : Net) where
    left-count : pin cs e v ≡ true → pin_count h cs p e (p v) ≡ pin_count h cs (place p v t) e (p v) + 1
    left-count q = omega (arith, count_by e (p v) true q, ap one (ne_eqb t (p v) (λ r. away (sym r))), ap one (eq-eqb (p v) (p v) refl))

    met-count : pin cs e v ≡ true → pin_count h cs p e t + 1 ≡ pin_count h cs (place p v t) e t
    met-count q = omega (arith, count_by e t true q, ap one (eq-eqb t t refl), ap one (ne_eqb (p v) t away))

    same_count : (m : Bool) → pin cs e v ≡ m → (b : ℕ) → (b ≡ p v → ⊥) → (b ≡ t → ⊥) → pin_count h cs p e b ≡ pin_count h cs (place p v t) e b
    same_count true q b ns nt = omega (arith, count_by e b true q, ap one (ne_eqb t b (λ r. nt (sym r))), ap one (ne_eqb (p v) b (λ r. ns (sym r))))
    same_count false q b ns nt = omega (arith, count_by e b false q)

    no_pin : pin cs e v ≡ false → (b : ℕ) → pin_count h cs p e b ≡ pin_count h cs (place p v t) e b
    no_pin q b = omega (arith, count_by e b false q)

    connectivity-same : pin cs e v ≡ false → connectivity h cs p e ≡ connectivity h cs (place p v t) e
    unfolding connectivity
    connectivity-same q = sum_to-ext h.blocks _ _ (λ b _ _. ap (λ (c : ℕ). one (ltb 0 c)) (no_pin q b))

    -- connectivity after the move, of a net of v's
    pub connectivity-move : pin cs e v ≡ true → connectivity h cs p e + one (eqb (pin_count h cs p e t) 0) ≡ connectivity h cs (place p v t) e + one (eqb (pin_count h cs p e (p v)) 1)
    unfolding connectivity
    connectivity-move q = omega (
      arith,
      sum_to-change2 h.blocks (p v) t (λ b. one (ltb 0 (pin_count h cs p e b))) (λ b. one (ltb 0 (pin_count h cs (place p v t) e b))) sl su tl tu away
          (λ b ns nt. ap (λ (c : ℕ). one (ltb 0 c)) (same_count true q b ns nt)),
      seen (pin_count h cs p e (p v)) (omega (arith, left-count q)),
      seen (pin_count h cs (place p v t) e t) (omega (arith, met-count q)),
      seen_one (pin_count h cs (place p v t) e (p v)) (pin_count h cs p e (p v)) (left-count q),
      seen-zero (pin_count h cs p e t),
    )

    spans : pin cs e v ≡ true → 1 ≤ connectivity h cs p e
    unfolding connectivity
    spans q = omega (arith, sum_to-term h.blocks (p v) (λ b. one (ltb 0 (pin_count h cs p e b))) sl su, seen (pin_count h cs p e (p v)) (omega (arith, left-count q)))

    spans' : pin cs e v ≡ true → 1 ≤ connectivity h cs (place p v t) e
    unfolding connectivity
    spans' q = omega (arith, sum_to-term h.blocks t (λ b. one (ltb 0 (pin_count h cs (place p v t) e b))) tl tu, seen (pin_count h cs (place p v t) e t) (omega (arith, met-count q)))

    -- the cost of the net after the move, by whether v is a pin of it
    cost-move : (m : Bool) → pin cs e v ≡ m → e.weight * (connectivity h cs (place p v t) e - 1) + cond (m && eqb (pin_count h cs p e (p v)) 1) e.weight 0 ≡ e.weight * (connectivity h cs p e - 1) + cond (m && eqb (pin_count h cs p e t) 0) e.weight 0
    cost-move true q = costs e.weight (connectivity h cs p e - 1) (connectivity h cs (place p v t) e - 1) (eqb (pin_count h cs p e (p v)) 1) (eqb (pin_count h cs p e t) 0) (omega (arith, connectivity-move q, spans q, spans' q))
    cost-move false q = ap (λ (c : ℕ). e.weight * (c - 1) + 0) (sym (connectivity-same q))

  -- the metric after moving v to t
  pub metric-move : 1 ≤ p v → p v ≤ h.blocks → 1 ≤ t → t ≤ h.blocks → (p v ≡ t → ⊥) → metric h cs (place p v t) + freed h cs p v ≡ metric h cs p + drawn h cs p v t
  unfolding metric freed drawn
  metric-move sl su tl tu away = sum_over-both h.nets _ _ _ _ (λ e. cost-move sl su tl tu away e (pin cs e v) refl)

  pub gain-away : (p v ≡ t → ⊥) → gain h cs p v t ≡ pos (freed h cs p v) -ℤ pos (drawn h cs p v t)
  unfolding gain
  gain-away ne = ap (λ (b : Bool). cond b (pos 0) (pos (freed h cs p v) -ℤ pos (drawn h cs p v t))) (ne_eqb (p v) t ne)

  -- the same with the gain: the metric after is the metric before less the gain
  pub metric-gain : 1 ≤ p v → p v ≤ h.blocks → 1 ≤ t → t ≤ h.blocks → (p v ≡ t → ⊥) → pos (metric h cs (place p v t)) ≡ pos (metric h cs p) -ℤ gain h cs p v t
  metric-gain sl su tl tu away = eq-by _ _ (omega (
    arith,
    metric-move sl su tl tu away,
    pos-is (metric h cs (place p v t)),
    pos-is (metric h cs p),
    pos-is (freed h cs p v),
    pos-is (drawn h cs p v t),
    sub_is (pos (metric h cs p)) (gain h cs p v t),
    ap up (gain-away away),
    ap dn (gain-away away),
    sub_is (pos (freed h cs p v)) (pos (drawn h cs p v t)),
  ))

-- the gain of the way back
pub gain-back : (h : Hypergraph) (cs : List Contraction) (p : ℕ → ℕ) (v t : ℕ) → 1 ≤ v → v ≤ vertices h → 1 ≤ p v → p v ≤ h.blocks → 1 ≤ t → t ≤ h.blocks → (p v ≡ t → ⊥)
    → gain h cs (place p v t) v (p v) ≡ neg_ℤ (gain h cs p v t)
gain-back h cs p v t vl vu sl su tl tu away = eq-by _ _ (omega (
  arith,
  neg_is (gain h cs p v t),
  ap up there,
  ap dn there,
  ap up back,
  ap dn back,
  sub_is (pos (metric h cs p)) (gain h cs p v t),
  sub_is (pos (metric h cs (place p v t))) (gain h cs (place p v t) v (p v)),
  pos-is (metric h cs p),
  pos-is (metric h cs (place p v t)),
))
  where
    there : pos (metric h cs (place p v t)) ≡ pos (metric h cs p) -ℤ gain h cs p v t
    there = metric-gain h cs p v t vl vu sl su tl tu away

    here : place p v t v ≡ t
    here = place_at p v t

    back : pos (metric h cs p) ≡ pos (metric h cs (place p v t)) -ℤ gain h cs (place p v t) v (p v)
    back =
        ap (λ (q : ℕ → ℕ). pos (metric h cs q)) (sym (place-back p v t))
        ∙ metric-gain h cs (place p v t) v (p v) vl vu (omega (arith, here)) (omega (arith, here)) sl su (λ r. away (sym r ∙ here))
