-- Peaks: for each part of 64 vertices, and for each vertex, a number that no gain of them passes; how they are set and raised. Vertices and
-- blocks count from 0 here: the 64 vertices from 64 * c on are part c; its peak is at place c, that of vertex x at 16 + x. Assumes nothing.
use Rattle.std.specs.Prelude.{◌≡◌, refl, Bool, true, false, cond, List, ℕ, zero, suc, ◌+◌, ◌-◌, ◌*◌, ◌/◌, ◌≤◌, ◌<◌, ltb, length, get_or, set, ℤ, pos, negsuc}
use Rattle.std.proofs.Common.{sym, ap, ◌∙◌, subst, true≢false, arith, ltb-true, ltb-false, le-ltb, length-set, get_or-set_same, get_or-set_other}
use Rattle.std.proofs.Math.Decide.{ℕ_discrete}
use Rattle.std.specs.Int.Signed.{lt_z}
use Rattle.std.specs.Int.{int_max}

-- the smaller of two numbers
abbrev pub lesser : ℕ → ℕ → ℕ
lesser a b = a - (a - b)

-- the gain of vertex x to block b is not above the peak at place i
abbrev pub UnderAt : List ℤ → List ℤ → ℕ → ℕ → ℕ → Type 0
UnderAt gains peaks i x b = lt_z (get_or peaks i (pos 0)) (get_or gains (16 * x + b) (pos 0)) ≡ false

-- nor above that of x's part, nor above that of x
abbrev pub Under : List ℤ → List ℤ → ℕ → ℕ → Type 0
Under gains peaks x b = UnderAt gains peaks (x / 64) x b × UnderAt gains peaks (16 + x) x b

pub record Peaked (gains peaks : List ℤ) (n k : ℕ) : Type 0 where
  pub len : length peaks ≡ 1040
  pub under : (x b : ℕ) → x < n → b < k → Under gains peaks x b

-- no peak has fallen
pub record Higher (l l' : List ℤ) : Type 0 where
  pub len : length l' ≡ length l
  pub kept : (x : ℤ) (c : ℕ) → lt_z (get_or l c (pos 0)) x ≡ false → lt_z (get_or l' c (pos 0)) x ≡ false

-- one peak is raised to g
pub record Raised (l l' : List ℤ) (i : ℕ) (g : ℤ) : Type 0 where
  pub higher : Higher l l'
  pub over : lt_z (get_or l' i (pos 0)) g ≡ false

-- r is not below a nor below b
pub record Larger (a b r : ℤ) : Type 0 where
  pub kept : (z : ℤ) → lt_z a z ≡ false → lt_z r z ≡ false
  pub above : lt_z r b ≡ false

-- r is not below `before` nor below a gain of vertex x
pub record RowPeak (gains : List ℤ) (x k : ℕ) (before r : ℤ) : Type 0 where
  pub kept : (z : ℤ) → lt_z before z ≡ false → lt_z r z ≡ false
  pub above : (b : ℕ) → b < k → lt_z r (get_or gains (16 * x + b) (pos 0)) ≡ false

-- r is not below a gain of the vertices from .. to - 1
pub record PartPeak (gains : List ℤ) (from to k : ℕ) (r : ℤ) : Type 0 where
  pub above : (x b : ℕ) → from ≤ x → x < to → b < k → lt_z r (get_or gains (16 * x + b) (pos 0)) ≡ false

-- nor is the peak of each of these vertices below its gains; the places before theirs are as they were
pub record PartSet (gains : List ℤ) (from to k : ℕ) (l l' : List ℤ) (r : ℤ) : Type 0 where
  pub len : length l' ≡ length l
  pub kept : (i : ℕ) → i < 16 + from → get_or l' i (pos 0) ≡ get_or l i (pos 0)
  pub part : PartPeak gains from to k r
  pub each : (x b : ℕ) → from ≤ x → x < to → b < k → UnderAt gains l' (16 + x) x b

-- the peaks of these vertices are p
pub record Levelled (from to : ℕ) (p : ℤ) (l l' : List ℤ) : Type 0 where
  pub len : length l' ≡ length l
  pub kept : (i : ℕ) → i < 16 + from → get_or l' i (pos 0) ≡ get_or l i (pos 0)
  pub level : (x : ℕ) → from ≤ x → x < to → get_or l' (16 + x) (pos 0) ≡ p

-- r is not below their gains to block b
pub record Column (gains : List ℤ) (from to b : ℕ) (r : ℤ) : Type 0 where
  pub above : (x : ℕ) → from ≤ x → x < to → lt_z r (get_or gains (16 * x + b) (pos 0)) ≡ false

-- r is not below their gains to the blocks b .. b + 3
pub record FourPeak (gains : List ℤ) (from to b : ℕ) (r : ℤ) : Type 0 where
  pub above : (x j : ℕ) → from ≤ x → x < to → b ≤ j → j < b + 4 → lt_z r (get_or gains (16 * x + j) (pos 0)) ≡ false

-- r is not below their gains to those of k blocks that come before block b
pub record Before (gains : List ℤ) (from to k b : ℕ) (r : ℤ) : Type 0 where
  pub above : (x j : ℕ) → from ≤ x → x < to → j < b → j < k → lt_z r (get_or gains (16 * x + j) (pos 0)) ≡ false

-- ---- the order of two numbers, by the test that the code makes

pub not-below : (a b c : ℤ) → lt_z a b ≡ false → lt_z b c ≡ false → lt_z a c ≡ false
not-below (pos a) (pos b) (pos c) h k = le-ltb a c (omega (arith, ltb-false a b h, ltb-false b c k))
not-below (pos a) b (negsuc c) h k = refl
not-below (pos a) (negsuc b) (pos c) h k = absurd (true≢false k)
not-below (negsuc a) (pos b) c h k = absurd (true≢false h)
not-below (negsuc a) (negsuc b) (pos c) h k = absurd (true≢false k)
not-below (negsuc a) (negsuc b) (negsuc c) h k = le-ltb c a (omega (arith, ltb-false b a h, ltb-false c b k))

pub not-both : (a b : ℤ) → lt_z a b ≡ true → lt_z b a ≡ false
not-both (pos a) (pos b) h = le-ltb b a (omega (arith, ltb-true a b h))
not-both (pos a) (negsuc b) h = absurd (true≢false (sym h))
not-both (negsuc a) (pos b) h = refl
not-both (negsuc a) (negsuc b) h = le-ltb a b (omega (arith, ltb-true b a h))

pub not_itself : (a : ℤ) → lt_z a a ≡ false
not_itself (pos a) = le-ltb a a (omega arith)
not_itself (negsuc a) = le-ltb a a (omega arith)

-- ---- the larger of two

pub larger-second : (a b r : ℤ) → r ≡ b → lt_z a b ≡ true → Larger a b r
larger-second a b r e t = rw e (record { kept = λ z h. not-below b a z (not-both a b t) h; above = not_itself b })

pub larger-first : (a b r : ℤ) → r ≡ a → lt_z a b ≡ false → Larger a b r
larger-first a b r e t = rw e (record { kept = λ z h. h; above = t })

pub larger_max : (a b r : ℤ) → r ≡ int_max a b → Larger a b r
larger_max a b r e = go (lt_z b a) refl
  where
    go : (t : Bool) → lt_z b a ≡ t → Larger a b r
    go true q = let f : r ≡ a = e ∙ ap (λ (t : Bool). cond t a b) q in larger-first a b r f (not-both b a q)
    go false q = let f : r ≡ b = e ∙ ap (λ (t : Bool). cond t a b) q in rw f (record { kept = λ z h. not-below b a z q h; above = not_itself b })

-- ---- four blocks from b on, or the last four of k

four_low : (b k at j : ℕ) → at ≡ lesser b (k - 4) → b ≤ j → at ≤ j
four_low b k at j e l = omega arith

four-high : (b k at j : ℕ) → 4 ≤ k → at ≡ lesser b (k - 4) → j < b + 4 → j < k → j < at + 4
four-high b k at j wide e l u = omega arith

-- ---- one vertex

module _ (gains : List ℤ) where
  pub row-begins : (x : ℕ) (before : ℤ) → RowPeak gains x 0 before before
  row-begins x before = record { kept = λ z h. h; above = λ b l. absurd (omega arith) }

  pub row-rises : (x j : ℕ) (before peak gain r : ℤ) → RowPeak gains x j before peak → gain ≡ get_or gains (16 * x + j) (pos 0) → Larger peak gain r → RowPeak gains x (j + 1) before r
  row-rises x j before peak gain r h e l = record { kept = λ z q. l.kept z (h.kept z q); above = λ b q. go b q (ℕ_discrete b j) }
    where
      go : (b : ℕ) → b < j + 1 → Dec (b ≡ j) → lt_z r (get_or gains (16 * x + b) (pos 0)) ≡ false
      go b q (yes s) = subst (λ (b : ℕ). lt_z r (get_or gains (16 * x + b) (pos 0)) ≡ false) (sym s) (subst (λ (z : ℤ). lt_z r z ≡ false) e l.above)
      go b q (no s) = l.kept _ (h.above b (omega arith))

  -- ---- one part

  pub part-begins : (from k : ℕ) (r : ℤ) → PartPeak gains from from k r
  part-begins from k r = record { above = λ x b l u q. absurd (omega arith) }

  pub part-rises : (from x k : ℕ) (peak r : ℤ) → PartPeak gains from x k peak → RowPeak gains x k peak r → PartPeak gains from (x + 1) k r
  part-rises from x k peak r h p = record { above = λ y b l u q. go y b l u q (ℕ_discrete y x) }
    where
      go : (y b : ℕ) → from ≤ y → y < x + 1 → b < k → Dec (y ≡ x) → lt_z r (get_or gains (16 * y + b) (pos 0)) ≡ false
      go y b l u q (yes s) = subst (λ (y : ℕ). lt_z r (get_or gains (16 * y + b) (pos 0)) ≡ false) (sym s) (p.above b q)
      go y b l u q (no s) = p.kept _ (h.above y b l (omega arith) q)

  -- ---- one part, four blocks at a time

  pub column-begins : (from b : ℕ) (r : ℤ) → Column gains from from b r
  column-begins from b r = record { above = λ x l u. absurd (omega arith) }

  -- the numbers that are passed and written are read back from their bits: gain from the table, w from the larger of the two
  pub column-rises : (from x b at : ℕ) (peak gain r w : ℤ) → at ≡ 16 * x + b → Column gains from x b peak → gain ≡ get_or gains at (pos 0) → w ≡ r → Larger peak gain r → Column gains from (x + 1) b w
  column-rises from x b at peak gain r w ea h e ew l = subst (Column gains from (x + 1) b) (sym ew) (record { above = λ y low u. go y low u (ℕ_discrete y x) })
    where
      go : (y : ℕ) → from ≤ y → y < x + 1 → Dec (y ≡ x) → lt_z r (get_or gains (16 * y + b) (pos 0)) ≡ false
      go y low u (yes s) =
          let q : at ≡ 16 * y + b = omega arith in
          subst (λ (i : ℕ). lt_z r (get_or gains i (pos 0)) ≡ false) q (subst (λ (z : ℤ). lt_z r z ≡ false) e l.above)
      go y low u (no s) = l.kept _ (h.above y low (omega arith))

  -- r is the larger of s and t, s of the first two peaks and t of the last two
  larger-four : (from to b : ℕ) (p₀ p₁ p₂ p₃ s t r : ℤ) → Column gains from to b p₀ → Column gains from to (b + 1) p₁ → Column gains from to (b + 2) p₂ → Column gains from to (b + 3) p₃
      → Larger p₀ p₁ s → Larger p₂ p₃ t → Larger s t r → FourPeak gains from to b r
  larger-four from to b p₀ p₁ p₂ p₃ s t r h₀ h₁ h₂ h₃ ls lt lr = record { above = λ x j l u low high. go x j l u (j - b) (omega arith) (omega arith) }
    where
      go : (x j : ℕ) → from ≤ x → x < to → (d : ℕ) → d < 4 → j ≡ b + d → lt_z r (get_or gains (16 * x + j) (pos 0)) ≡ false
      go x j l u zero k q = let z : j ≡ b = omega arith in rw z (lr.kept _ (ls.kept _ (h₀.above x l u)))
      go x j l u (suc zero) k q = rw q (lr.kept _ (not-below s p₁ _ ls.above (h₁.above x l u)))
      go x j l u (suc (suc zero)) k q = rw q (not-below r t _ lr.above (lt.kept _ (h₂.above x l u)))
      go x j l u (suc (suc (suc zero))) k q = rw q (not-below r t _ lr.above (not-below t p₃ _ lt.above (h₃.above x l u)))
      go x j l u (suc (suc (suc (suc d)))) k q = absurd (omega arith)

  -- the same by what is passed, s' and t', and written, w
  pub four-ends : (from x to b : ℕ) (p₀ p₁ p₂ p₃ s s' t t' r w : ℤ) → x ≡ to → Column gains from x b p₀ → Column gains from x (b + 1) p₁ → Column gains from x (b + 2) p₂ → Column gains from x (b + 3) p₃
      → Larger p₀ p₁ s → Larger p₂ p₃ t → s' ≡ s → t' ≡ t → Larger s' t' r → w ≡ r → FourPeak gains from to b w
  four-ends from x to b p₀ p₁ p₂ p₃ s s' t t' r w e h₀ h₁ h₂ h₃ ls lt es et lr ew =
      subst (λ (k : ℕ). FourPeak gains from k b w) e (subst (FourPeak gains from x b) (sym ew)
      (larger-four from x b p₀ p₁ p₂ p₃ s t r h₀ h₁ h₂ h₃ ls lt (subst (λ (z : ℤ). Larger z t r) es (subst (λ (z : ℤ). Larger s' z r) et lr))))

  pub fours-begin : (from to k : ℕ) (r : ℤ) → Before gains from to k 0 r
  fours-begin from to k r = record { above = λ x j l u s t. absurd (omega arith) }

  -- those before b are done; the four from b on, or the last four, are next
  pub fours-rise : (from to k b at : ℕ) (p q q' r w : ℤ) → 4 ≤ k → at ≡ lesser b (k - 4) → Before gains from to k b p → FourPeak gains from to at q → q' ≡ q → w ≡ r → Larger p q' r → Before gains from to k (b + 4) w
  fours-rise from to k b at p q q' r w wide ea h f eq ew l = subst (Before gains from to k (b + 4)) (sym ew) (record { above = λ x j low u s t. go x j low u s t (ltb j b) refl })
    where
      go : (x j : ℕ) → from ≤ x → x < to → j < b + 4 → j < k → (d : Bool) → ltb j b ≡ d → lt_z r (get_or gains (16 * x + j) (pos 0)) ≡ false
      go x j low u s t true e = l.kept _ (h.above x j low u (ltb-true j b e) t)
      go x j low u s t false e = not-below r q _ (subst (λ (z : ℤ). lt_z r z ≡ false) eq l.above) (f.above x j low u (four_low b k at j ea (ltb-false j b e)) (four-high b k at j wide ea s t))

  pub fours-end : (from to k b : ℕ) (r : ℤ) → k ≤ b → Before gains from to k b r → PartPeak gains from to k r
  fours-end from to k b r all h = record { above = λ x j l u s. h.above x j l u (omega arith) s }

  -- ---- the peaks of a part's vertices

  pub each-begins : (from k : ℕ) (l : List ℤ) (r : ℤ) → PartSet gains from from k l l r
  each-begins from k l r = record { len = refl; kept = λ i q. refl; part = part-begins from k r; each = λ x b q u. absurd (omega arith) }

  -- the numbers that are passed and written are read back from their bits: top is written, top' passed, w the larger of the two
  pub each-rises : (from x k : ℕ) (l l' : List ℤ) (peak top top' r w : ℤ) → 16 + x < length l → from ≤ x → PartSet gains from x k l l' peak → PartPeak gains x (x + 1) k top → top' ≡ top → w ≡ r → Larger peak top' r
      → PartSet gains from (x + 1) k l (set l' (16 + x) top') w
  each-rises from x k l l' peak top top' r w high begun h p et ew m = record {
    len = length-set l' (16 + x) top' ∙ h.len;
    kept = λ i q. get_or-set_other l' (16 + x) i top' (pos 0) (λ e. omega arith) ∙ h.kept i q;
    part = subst (PartPeak gains from (x + 1) k) (sym ew) (record { above = λ y b a u q. go y b a u q (ℕ_discrete y x) });
    each = λ y b a u q. at y b a u q (ℕ_discrete y x);
  }
    where
      own : (b : ℕ) → b < k → lt_z top' (get_or gains (16 * x + b) (pos 0)) ≡ false
      own b q = subst (λ (z : ℤ). lt_z z (get_or gains (16 * x + b) (pos 0)) ≡ false) (sym et) (p.above x b (omega arith) (omega arith) q)

      go : (y b : ℕ) → from ≤ y → y < x + 1 → b < k → Dec (y ≡ x) → lt_z r (get_or gains (16 * y + b) (pos 0)) ≡ false
      go y b a u q (yes s) = subst (λ (y : ℕ). lt_z r (get_or gains (16 * y + b) (pos 0)) ≡ false) (sym s) (not-below r top' _ m.above (own b q))
      go y b a u q (no s) = m.kept _ (h.part.above y b a (omega arith) q)

      at : (y b : ℕ) → from ≤ y → y < x + 1 → b < k → Dec (y ≡ x) → UnderAt gains (set l' (16 + x) top') (16 + y) y b
      at y b a u q (yes s) = subst (λ (y : ℕ). UnderAt gains (set l' (16 + x) top') (16 + y) y b) (sym s)
          (subst (λ (z : ℤ). lt_z z (get_or gains (16 * x + b) (pos 0)) ≡ false) (sym (get_or-set_same l' (16 + x) top' (pos 0) (omega (arith, h.len)))) (own b q))
      at y b a u q (no s) = subst (λ (z : ℤ). lt_z z (get_or gains (16 * y + b) (pos 0)) ≡ false) (sym (get_or-set_other l' (16 + x) (16 + y) top' (pos 0) (λ e. s (omega arith)))) (h.each y b a (omega arith) q)

  pub each-ends : (from x to k : ℕ) (l l' : List ℤ) (r : ℤ) → x ≡ to → PartSet gains from x k l l' r → PartSet gains from to k l l' r
  each-ends from x to k l l' r e h = subst (λ (y : ℕ). PartSet gains from y k l l' r) e h

  -- all of them are a number that no gain of the part passes
  pub level-set : (from to k : ℕ) (l l' : List ℤ) (p : ℤ) → PartPeak gains from to k p → Levelled from to p l l' → PartSet gains from to k l l' p
  level-set from to k l l' p h v = record {
    len = v.len;
    kept = v.kept;
    part = h;
    each = λ x b a u q. subst (λ (z : ℤ). lt_z z (get_or gains (16 * x + b) (pos 0)) ≡ false) (sym (v.level x a u)) (h.above x b a u q);
  }

  -- ---- all parts: those before part c are done

  pub record Surveyed (n k c : ℕ) (peaks : List ℤ) : Type 0 where
    pub len : length peaks ≡ 1040
    pub under : (x b : ℕ) → x < 64 * c → x < n → b < k → Under gains peaks x b

  pub survey-begins : (n k : ℕ) (peaks : List ℤ) → length peaks ≡ 1040 → Surveyed n k 0 peaks
  survey-begins n k peaks h = record { len = h; under = λ x b l u q. absurd (omega arith) }

  pub survey-rises : (n k c to : ℕ) (peaks peaks' : List ℤ) (r : ℤ) → c < 16 → n ≤ 1024 → to ≡ lesser (64 * c + 64) n → Surveyed n k c peaks → PartSet gains (64 * c) to k peaks peaks' r → Surveyed n k (c + 1) (set peaks' c r)
  survey-rises n k c to peaks peaks' r small few e h p = record { len = length-set peaks' c r ∙ p.len ∙ h.len; under = λ x b l u q. (part x b l u q (ℕ_discrete (x / 64) c), each x b l u q (ℕ_discrete (x / 64) c)) }
    where
      elsewhere : (i : ℕ) → i < 16 + 64 * c → (i ≡ c → ⊥) → get_or (set peaks' c r) i (pos 0) ≡ get_or peaks i (pos 0)
      elsewhere i q d = get_or-set_other peaks' c i r (pos 0) d ∙ p.kept i q

      part : (x b : ℕ) → x < 64 * (c + 1) → x < n → b < k → Dec (x / 64 ≡ c) → UnderAt gains (set peaks' c r) (x / 64) x b
      part x b l u q (yes s) =
          subst (λ (z : ℤ). lt_z z (get_or gains (16 * x + b) (pos 0)) ≡ false) (sym (ap (λ (y : ℕ). get_or (set peaks' c r) y (pos 0)) s ∙ get_or-set_same peaks' c r (pos 0) (omega (arith, h.len, p.len))))
          (p.part.above x b (omega arith) (omega arith) q)
      part x b l u q (no s) =
          subst (λ (z : ℤ). lt_z z (get_or gains (16 * x + b) (pos 0)) ≡ false) (sym (elsewhere (x / 64) (omega arith) s)) (h.under x b (omega arith) u q).0

      each : (x b : ℕ) → x < 64 * (c + 1) → x < n → b < k → Dec (x / 64 ≡ c) → UnderAt gains (set peaks' c r) (16 + x) x b
      each x b l u q (yes s) =
          subst (λ (z : ℤ). lt_z z (get_or gains (16 * x + b) (pos 0)) ≡ false) (sym (get_or-set_other peaks' c (16 + x) r (pos 0) (λ d. omega arith))) (p.each x b (omega arith) (omega arith) q)
      each x b l u q (no s) =
          subst (λ (z : ℤ). lt_z z (get_or gains (16 * x + b) (pos 0)) ≡ false) (sym (elsewhere (16 + x) (omega arith) (λ d. omega arith))) (h.under x b (omega arith) u q).1

  pub survey-ends : (n k c : ℕ) (peaks : List ℤ) → n ≤ 64 * c → Surveyed n k c peaks → Peaked gains peaks n k
  survey-ends n k c peaks l h = record { len = h.len; under = λ x b u q. h.under x b (omega arith) u q }

pub level-begins : (from : ℕ) (p : ℤ) (l : List ℤ) → Levelled from from p l l
level-begins from p l = record { len = refl; kept = λ i q. refl; level = λ x a u. absurd (omega arith) }

pub level-more : (from x : ℕ) (p w : ℤ) (l l' : List ℤ) → 16 + x < length l → from ≤ x → w ≡ p → Levelled from x p l l' → Levelled from (x + 1) p l (set l' (16 + x) w)
level-more from x p w l l' high begun e h = record {
  len = length-set l' (16 + x) w ∙ h.len;
  kept = λ i q. get_or-set_other l' (16 + x) i w (pos 0) (λ d. omega arith) ∙ h.kept i q;
  level = λ y a u. go y a u (ℕ_discrete y x);
}
  where
    go : (y : ℕ) → from ≤ y → y < x + 1 → Dec (y ≡ x) → get_or (set l' (16 + x) w) (16 + y) (pos 0) ≡ p
    go y a u (yes s) = ap (λ (y : ℕ). get_or (set l' (16 + x) w) (16 + y) (pos 0)) s ∙ get_or-set_same l' (16 + x) w (pos 0) (omega (arith, h.len)) ∙ e
    go y a u (no s) = get_or-set_other l' (16 + x) (16 + y) w (pos 0) (λ d. s (omega arith)) ∙ h.level y a (omega arith)

pub level-ends : (from x to : ℕ) (p w : ℤ) (l l' : List ℤ) → x ≡ to → w ≡ p → Levelled from x w l l' → Levelled from to p l l'
level-ends from x to p w l l' ex ew h = subst (λ (z : ℤ). Levelled from to z l l') ew (subst (λ (y : ℕ). Levelled from y w l l') ex h)

-- ---- one peak raised

pub raised-higher : (l : List ℤ) (c : ℕ) (r : ℤ) → c < length l → ((z : ℤ) → lt_z (get_or l c (pos 0)) z ≡ false → lt_z r z ≡ false) → Higher l (set l c r)
raised-higher l c r u f = record { len = length-set l c r; kept = λ z d h. go z d h (ℕ_discrete d c) }
  where
    go : (z : ℤ) (d : ℕ) → lt_z (get_or l d (pos 0)) z ≡ false → Dec (d ≡ c) → lt_z (get_or (set l c r) d (pos 0)) z ≡ false
    go z d h (yes s) =
        subst (λ (y : ℤ). lt_z y z ≡ false) (sym (ap (λ (d : ℕ). get_or (set l c r) d (pos 0)) s ∙ get_or-set_same l c r (pos 0) u))
        (f z (subst (λ (d : ℕ). lt_z (get_or l d (pos 0)) z ≡ false) s h))
    go z d h (no s) = subst (λ (y : ℤ). lt_z y z ≡ false) (sym (get_or-set_other l c d r (pos 0) s)) h

-- the numbers that are passed and written are read back from their bits: p from the peak, w from the larger of the two
pub raised : (l : List ℤ) (i : ℕ) (p g g' r w : ℤ) → i < length l → p ≡ get_or l i (pos 0) → g' ≡ g → w ≡ r → Larger p g' r → Raised l (set l i w) i g
raised l i p g g' r w u ep eg ew h = record {
  higher = raised-higher l i w u (λ z q. subst (λ (y : ℤ). lt_z y z ≡ false) (sym ew) (h.kept z (subst (λ (y : ℤ). lt_z y z ≡ false) (sym ep) q)));
  over = subst (λ (y : ℤ). lt_z y g ≡ false) (sym (get_or-set_same l i w (pos 0) u)) (subst (λ (y : ℤ). lt_z y g ≡ false) (sym ew) (subst (λ (y : ℤ). lt_z r y ≡ false) eg h.above));
}

-- both peaks of vertex x are raised to what is not below its gain to block b
pub both-raised : (gains : List ℤ) (x : ℕ) {l m l' : List ℤ} {g g' : ℤ} → Raised l m (x / 64) g → Raised m l' (16 + x) g'
    → Higher l l' × ((b : ℕ) → lt_z g (get_or gains (16 * x + b) (pos 0)) ≡ false → lt_z g' (get_or gains (16 * x + b) (pos 0)) ≡ false → Under gains l' x b)
both-raised gains x {l} {m} {l'} {g} {g'} p q = (
  record { len = q.higher.len ∙ p.higher.len; kept = λ z c h. q.higher.kept z c (p.higher.kept z c h) },
  λ b h h'.
      let gain = get_or gains (16 * x + b) (pos 0) in
      (q.higher.kept gain (x / 64) (not-below (get_or m (x / 64) (pos 0)) g gain p.over h), not-below (get_or l' (16 + x) (pos 0)) g' gain q.over h'),
)
