-- Laws of the best open pair, in the code's variables: one pair weighed, one row, one candidate more, all of them. Rests on Open.
-- Assumes nothing.
use Rattle.std.specs.Prelude.{Option, ◌≡◌, List, Bool, ◌&&◌, cond, ℕ, zero, suc, ◌+◌, ◌-◌, ◌*◌, ◌^◌, ◌≤◌, ◌<◌, eqb, get_or, ℤ, pos, negsuc}
use Rattle.std.proofs.Math.Path.{refl, sym, ap}
use Rattle.std.proofs.Common.{◌∙◌, subst, true≢false, arith, SFits, of_z, to_z, to_z-of_z, lt-ltb, le-ltb, leb-true, eq-eqb}
use Rattle.std.proofs.Math.Bool.{true, false}
use Rattle.std.proofs.Math.Decide.{ℕ_discrete}
use Rattle.std.specs.Int.Signed.{mag, lt_z, le_z}
use Rattle.std.specs.Int.{w32, w64}
use Rattle.laws.specs.Sum.{fold_to, fold_to-zero, fold_to-step}
use Rattle.model.specs.Search.{Best, none, best, better, consider, best_pair}
use Rattle.guarantees.specs.Tops.{Top, best-top}
use Rattle.incidence.specs.On.{on}
use Rattle.best_move.specs.declared.open.Lead.{Lead}
use Rattle.best_move.specs.declared.open.Move.{Move}
use Rattle.best_move.specs.Open.{step, best_of, PickIn, may_go, open_in, considered, best_in_row, best_to, vertex_at, block_at, pair_at, lead_of, Leads, Chosen}

-- a place that holds a pair, and a pair that is in range
pub pair-some : (at : ℕ) → (at ≡ 0 → ⊥) → step (vertex_at at) (block_at at) ≡ pair_at at
pair-some zero h = absurd (h refl)
pair-some (suc x) h = refl

pair-in : (n k at : ℕ) → PickIn n k (pair_at at) → at ≤ 16 * n
pair-in n k zero h = omega arith
pair-in n k (suc x) h = omega (arith, h.1)

-- ---- one pair

-- a gain as wide as the lead's, and one of that width read back from its bits
pub wide_fits : (gain : ℤ) → SFits w32 gain → SFits w64 (to_z w32 (of_z w32 gain))
wide_fits gain f = subst (SFits w64) (sym (to_z-of_z f)) (record { sfits = omega (arith, f.sfits) })

pub read64 : (z : ℤ) → mag z < 2 ^ 63 → to_z w64 (of_z w64 z) ≡ z
read64 z f = to_z-of_z {w = w64} (record { sfits = f })

pub le-not-lt : (a b : ℤ) → le_z a b ≡ true → lt_z b a ≡ false
le-not-lt (pos a) (pos b) h = le-ltb b a (leb-true a b h)
le-not-lt (pos a) (negsuc b) h = absurd (true≢false (sym h))
le-not-lt (negsuc a) (pos b) h = refl
le-not-lt (negsuc a) (negsuc b) h = le-ltb a b (leb-true b a h)

-- the lead that the search begins with
pub no_lead : Leads (record { at = 0; top = negsuc 4294967295 }) none
no_lead = record { same = refl; below = λ z. under }
  where
    under : (gain : ℤ) → mag gain < 2 ^ 31 → lt_z (negsuc 4294967295) gain ≡ true
    under (pos a) f = refl
    under (negsuc a) f = lt-ltb a 4294967295 (omega (arith, f))

-- the pair at `here` is the first, or worth more than the best before it
rises : (at here : ℕ) (top gain : ℤ) → 1 ≤ here → lt_z top gain ≡ true → lead_of here gain ≡ better (lead_of at top) (vertex_at here) (block_at here) gain
unfolding better
rises at zero top gain l t = absurd (omega arith)
rises zero (suc x) top gain l t = refl
rises (suc y) (suc x) top gain l t = rw t

-- it is not the first, and not worth more
pub stays : (at v b : ℕ) (top gain : ℤ) → (at ≡ 0 → lt_z top gain ≡ true) → lt_z top gain ≡ false → lead_of at top ≡ better (lead_of at top) v b gain
unfolding better
stays zero v b top gain low t = absurd (true≢false (sym (low refl) ∙ t))
stays (suc y) v b top gain low t = rw t

module _ (may : Bool) (here : ℕ) (gain : ℤ) (old : Lead) (before : Best) (from : 1 ≤ here) (fits : SFits w32 gain) (h : Leads old before) where
  weighed-by : (m l : Bool) → lt_z old.top gain ≡ l
      → Leads (record { at = cond (m && l) here old.at; top = cond (m && l) gain old.top }) (considered m (vertex_at here) (block_at here) gain before)
  unfolding considered
  weighed-by false l e = h
  weighed-by true true e = record {
    same = rises old.at here old.top gain from e ∙ ap (λ c. better c (vertex_at here) (block_at here) gain) h.same;
    below = λ z. absurd (omega arith);
  }
  weighed-by true false e = record {
    same = stays old.at (vertex_at here) (block_at here) old.top gain (λ z. h.below z gain fits.sfits) e ∙ ap (λ c. better c (vertex_at here) (block_at here) gain) h.same;
    below = h.below;
  }

  -- `gain'` and `top'` are the two gains read back from their bits
  pub weighed : {less t : Bool} {at : ℕ} {top gain' top' : ℤ} → gain' ≡ gain → top' ≡ old.top → less ≡ lt_z top' gain' → t ≡ (may && less)
      → at ≡ cond t here old.at → top ≡ cond t gain' top' → Leads (record { at = at; top = top }) (considered may (vertex_at here) (block_at here) gain before)
  weighed eg et el eb ea ep = rw (ea, ep, eb, el, eg, et) (weighed-by may (lt_z old.top gain) refl)

-- ---- what is not better than the best so far changes nothing

-- what none of the steps changes, they leave
fold-rests : {B : Type 0} (m n : ℕ) (f : B → ℕ → B) (b r : B) → m ≤ n → fold_to m f b ≡ r → ((i : ℕ) → m < i → i ≤ n → f r i ≡ r) → fold_to n f b ≡ r
fold-rests m zero f b r l e h = let q : 0 ≡ m = omega arith in ap (λ (k : ℕ). fold_to k f b) q ∙ e
fold-rests m (suc n) f b r l e h = go (fold-rests m n f b r) (ℕ_discrete m (suc n))
  where
    go : (m ≤ n → fold_to m f b ≡ r → ((i : ℕ) → m < i → i ≤ n → f r i ≡ r) → fold_to n f b ≡ r) → Dec (m ≡ suc n) → fold_to (suc n) f b ≡ r
    go ih (yes q) = ap (λ (k : ℕ). fold_to k f b) (sym q) ∙ e
    go ih (no q) =
        let s : suc n ≡ n + 1 = omega arith in
        ap (λ (k : ℕ). fold_to k f b) s ∙ fold_to-step n f b ∙ ap (λ c. f c (n + 1)) (ih (omega arith) e (λ i a c. h i a (omega arith))) ∙ h (n + 1) (omega arith) (omega arith)

-- there is a best pair, and its gain is not below this one
abbrev pub Topped : Lead → ℤ → Type 0
Topped lead gain = (lead.at ≡ 0 → lt_z lead.top gain ≡ true) × (lt_z lead.top gain ≡ false)

module _ (may : ℕ → ℕ → Bool) (worth : ℕ → ℕ → ℤ) (k from to : ℕ) (lead : Lead) (l : from ≤ to) (h : (v b : ℕ) → from < v → v ≤ to → 1 ≤ b → b ≤ k → may v b ≡ true → Topped lead (worth v b)) where
  abbrev held : Best
  held = lead_of lead.at lead.top

  pair-rests : (v b : ℕ) → from < v → v ≤ to → 1 ≤ b → b ≤ k → considered (may v b) v b (worth v b) held ≡ held
  unfolding considered
  pair-rests v b lv uv lb ub = by (may v b) refl
    where
      by : (t : Bool) → may v b ≡ t → considered t v b (worth v b) held ≡ held
      by true e = let d = h v b lv uv lb ub e in sym (stays lead.at v b lead.top (worth v b) d.0 d.1)
      by false e = refl

  row-rests : (v : ℕ) → from < v → v ≤ to → best_in_row worth (may v) v k held ≡ held
  unfolding best_in_row
  row-rests v lv uv =
      fold-rests 0 k (λ c b. considered (may v b) v b (worth v b) c) held held (omega arith)
      (fold_to-zero (λ c b. considered (may v b) v b (worth v b) c) held) (λ b lb ub. pair-rests v b lv uv (omega arith) ub)

  pub lead-rests : Leads lead (best_to may worth k from) → Leads lead (best_to may worth k to)
  unfolding best_to
  lead-rests g = record {
    same = sym (fold-rests from to (λ c v. best_in_row worth (may v) v k c) none held l (sym g.same) (λ v lv uv. row-rests v lv uv));
    below = g.below;
  }

-- ---- one row

module _ (worth : ℕ → ℕ → ℤ) (may : ℕ → Bool) (v : ℕ) where
  pub row-none : (b : Best) → b ≡ best_in_row worth may v 0 b
  unfolding best_in_row
  row-none b = sym (fold_to-zero (λ c b. considered (may b) v b (worth v b) c) b)

  -- the pair with block j + 1, by its place
  pub row_more : (j here : ℕ) (may' : Bool) (gain : ℤ) (before : Best) → vertex_at here ≡ v → block_at here ≡ j + 1 → may' ≡ may (j + 1) → gain ≡ worth v (j + 1)
      → considered may' (vertex_at here) (block_at here) gain (best_in_row worth may v j before) ≡ best_in_row worth may v (j + 1) before
  unfolding best_in_row
  row_more j here may' gain before ev eb em eg = rw (ev, eb, em, eg) (sym (fold_to-step j (λ c b. considered (may b) v b (worth v b) c) before))

-- ---- all candidates

to-pair : (may : ℕ → ℕ → Bool) (worth : ℕ → ℕ → ℤ) (k n : ℕ) → best_to may worth k n ≡ best_pair n k may worth
unfolding best_to best_in_row considered best_pair consider
to-pair may worth k n = refl

module _ (candidates blocks weights loads ceilings : List ℕ) (worth : ℕ → ℕ → ℤ) (n k : ℕ) where
  abbrev may : ℕ → ℕ → Bool
  may = open_in candidates blocks weights loads ceilings

  pub none_seen : none ≡ best_to may worth k 0
  unfolding best_to
  none_seen = sym (fold_to-zero (λ b v. best_in_row worth (may v) v k b) none)

  -- the pairs of the candidate at place i
  candidate-row : (i : ℕ) → on candidates 0 i ≡ 1 → (before : Best)
      → best_in_row worth (λ b. may_go (get_or loads (b - 1) 0) (get_or blocks i 0) (get_or weights i 0) (get_or ceilings (b - 1) 0) b) (i + 1) k before ≡ best_in_row worth (may (i + 1)) (i + 1) k before
  candidate-row i o before =
      let e : i + 1 - 1 ≡ i = omega arith in
      sym (ap (λ (x : ℕ). best_in_row worth (λ b. eqb (on candidates 0 x) 1 && may_go (get_or loads (b - 1) 0) (get_or blocks x 0) (get_or weights x 0) (get_or ceilings (b - 1) 0) b) (i + 1) k before) e
      ∙ ap (λ (t : Bool). best_in_row worth (λ b. t && may_go (get_or loads (b - 1) 0) (get_or blocks i 0) (get_or weights i 0) (get_or ceilings (b - 1) 0) b) (i + 1) k before) (eq-eqb (on candidates 0 i) 1 o))

  pub candidate-more : (i : ℕ) → on candidates 0 i ≡ 1
      → best_in_row worth (λ b. may_go (get_or loads (b - 1) 0) (get_or blocks i 0) (get_or weights i 0) (get_or ceilings (b - 1) 0) b) (i + 1) k (best_to may worth k i) ≡ best_to may worth k (i + 1)
  unfolding best_to
  candidate-more i o = candidate-row i o (best_to may worth k i) ∙ sym (fold_to-step i (λ b v. best_in_row worth (may v) v k b) none)

  abbrev In : ℕ → ℕ → Type 0
  In a c = (1 ≤ a) × (a ≤ n) × (1 ≤ c) × (c ≤ k)

  chosen_at : (at : ℕ) (top : ℤ) → lead_of at top ≡ best_pair n k may worth → Top may worth In (lead_of at top) → Chosen worth n k (pair_at at) (best_pair n k may worth)
  chosen_at zero top e t = record { same = e; within = tt }
  chosen_at (suc x) top e t = record { same = ap (best (vertex_at (suc x)) (block_at (suc x))) (sym t.value) ∙ e; within = t.there }

  -- all of them: the pair is model's, and so it is in range
  module _ (i : ℕ) (lead : Lead) (l : n ≤ i) (u : i ≤ n) (h : Leads lead (best_to may worth k i)) where
    pub all-candidates : Chosen worth n k (pair_at lead.at) (best_pair n k may worth)
    all-candidates =
        let q : i ≡ n = omega arith in
        let is : lead_of lead.at lead.top ≡ best_pair n k may worth = h.same ∙ ap (best_to may worth k) q ∙ to-pair may worth k n in
        chosen_at lead.at lead.top is (subst (Top may worth In) (sym is) (best-top may worth k n))

    pub lead-in : lead.at ≤ 16 * n
    lead-in = pair-in n k lead.at all-candidates.within

-- the pair that is answered is open
pub pick-open : (may : ℕ → ℕ → Bool) (worth : ℕ → ℕ → ℤ) (n k v b : ℕ) (r : Option Move) → r ≡ step v b → Chosen worth n k r (best_pair n k may worth) → may v b ≡ true
pick-open may worth n k v b r e c =
    (subst (Top may worth (λ a d. (1 ≤ a) × (a ≤ n) × (1 ≤ d) × (d ≤ k))) (sym c.same ∙ ap (best_of worth) e) (best-top may worth k n)).open-pair
