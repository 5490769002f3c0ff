-- The first block of a ranked row that has room, in the code's variables: with it the vertex has its best open pair. Rests on index's Row and
-- guarantees' Ranks. Assumes nothing.
use Rattle.std.specs.Prelude.{◌≡◌, Bool, ◌&&◌, ℤ, length, get_or}
use Rattle.std.proofs.Math.Path.{refl, sym, ap, subst}
use Rattle.std.proofs.Common.{ap₂, ◌∙◌, true≢false, below_more, eq-eqb, ne_eqb}
use mathlib.Core.List.{List, [], ◌∷◌}
use Rattle.std.proofs.Math.Bool.{true, false, not}
use Prim.Native.Nat.{ℕ, zero, suc, ◌+◌, ◌-◌, ◌*◌, ◌^◌, ◌≤◌, ◌<◌}
use Rattle.std.proofs.Math.Decide.{ℕ_discrete}
use native.Mathlib.Omega.{arith}
use Rattle.std.specs.Int.Signed.{mag, lt_z}
use Rattle.laws.specs.Fold.{all-get}
use Rattle.model.specs.Search.{Best, better}
use Rattle.best_move.specs.declared.open.Lead.{Lead}
use Rattle.best_move.specs.Open.{gain_in, may_go, room_for, considered, best_in_row, vertex_at, block_at, Leads}
use Rattle.best_move.specs.OpenLaw.{stays}
use Rattle.guarantees.specs.Ranked.{ranked_by, Other, first_of, scanned}
use Rattle.guarantees.specs.Inserts.{no_less, sorted-get, first_taken, first-passed}
use Rattle.guarantees.specs.Ranks.{ranked-only, ranked-length, ranked-sorted, ranked-first}
use Rattle.index.specs.Row.{gain_at, row_at, Holds, RowsOk}

-- none of the blocks before place j may be taken
abbrev pub Shut : (ℕ → Bool) → List ℕ → ℕ → Type 0
Shut may l j = (i : ℕ) → i < j → may (get_or l i 0) ≡ false

module _ (gain : ℕ → ℤ) (may : ℕ → Bool) (v : ℕ) (before : Best) where
  first-at : (l : List ℕ) (j : ℕ) → j < length l → Shut may l j → may (get_or l j 0) ≡ true → first_of gain may v l before ≡ better before v (get_or l j 0) (gain (get_or l j 0))
  first-at [] j h s e = absurd (omega arith)
  first-at (b ∷ l) zero h s e = first_taken gain may v before b l e
  first-at (b ∷ l) (suc j) h s e = first-passed gain may v before b l (s 0 (omega arith)) ∙ first-at l j (omega arith) (λ i u. s (suc i) (omega arith)) e

  -- those from place j on are not better
  first-rests : (l : List ℕ) (j : ℕ) → Shut may l j → ((i : ℕ) → j ≤ i → i < length l → better before v (get_or l i 0) (gain (get_or l i 0)) ≡ before) → first_of gain may v l before ≡ before
  unfolding first_of
  first-rests [] j s h = refl
  first-rests (b ∷ l) (suc j) s h = first-passed gain may v before b l (s 0 (omega arith)) ∙ first-rests l j (λ i u. s (suc i) (omega arith)) (λ i u q. h (suc i) (omega arith) (omega arith))
  first-rests (b ∷ l) zero s h = go (may b) refl (first-rests l 0 (λ i u. absurd (omega arith)) (λ i u q. h (suc i) (omega arith) (omega arith)))
    where
      go : (t : Bool) → may b ≡ t → first_of gain may v l before ≡ before → first_of gain may v (b ∷ l) before ≡ before
      go true e ih = first_taken gain may v before b l e ∙ h 0 (omega arith) (omega arith)
      go false e ih = first-passed gain may v before b l e ∙ ih

-- what the search of a row asks: the row is ranked, for a vertex of a block that is in range
pub record FirstOk (index : List ℕ) (gains : List ℤ) (own x k : ℕ) : Type 0 where
  pub rows : RowsOk (length index) (length gains) x k
  pub from : 1 ≤ own
  pub to : own ≤ k
  pub holds : Holds k index x (ranked_by (gain_at gains x) own k)

-- whether a vertex of block `own` may go to block b
abbrev pub goes : List ℕ → List ℕ → ℕ → ℕ → ℕ → Bool
goes loads ceilings own weight b = may_go (get_or loads (b - 1) 0) own weight (get_or ceilings (b - 1) 0) b

module _ (loads ceilings : List ℕ) (weight : ℕ) {index : List ℕ} {gains : List ℤ} {own x k : ℕ} (h : FirstOk index gains own x k) where
  abbrev may : ℕ → Bool
  may = goes loads ceilings own weight

  abbrev row : List ℕ
  row = ranked_by (gain_at gains x) own k

  row-best : (c : Best) → first_of (gain_at gains x) may (x + 1) row c ≡ best_in_row (gain_in gains) may (x + 1) k c
  unfolding scanned best_in_row considered
  row-best c =
      let e : x ≡ x + 1 - 1 = omega arith in
      ranked-first (gain_at gains x) own may (x + 1) k c (ap (λ (t : Bool). not t && room_for (get_or loads (own - 1) 0) weight (get_or ceilings (own - 1) 0)) (eq-eqb own own refl))
      ∙ ap (λ (y : ℕ). scanned (gain_at gains y) may (x + 1) k c) e

  module _ (j b : ℕ) (u : j + 1 < k) (e : b ≡ row_at index x j) where
    is : b ≡ get_or row j 0
    is = e ∙ h.holds j (omega arith)

    inside : j < length row
    inside = omega (arith, ranked-length (gain_at gains x) own k h.from h.to)

    -- what stands there is another block
    pub block-other : Other own k b
    block-other = rw is (all-get row (Other own k) 0 (ranked-only (gain_at gains x) own k) j inside)

    goes_by : {r : Bool} → r ≡ room_for (get_or loads (b - 1) 0) weight (get_or ceilings (b - 1) 0) → may (get_or row j 0) ≡ r
    goes_by {r} q = ap may (sym is) ∙ ap (λ (t : Bool). not t && room_for (get_or loads (b - 1) 0) weight (get_or ceilings (b - 1) 0)) (ne_eqb own b block-other.2) ∙ sym q

    pub shut-more : {r : Bool} → r ≡ room_for (get_or loads (b - 1) 0) weight (get_or ceilings (b - 1) 0) → r ≡ false → Shut may row j → Shut may row (j + 1)
    shut-more q f s = below_more _ _ s (goes_by q ∙ f)

    -- it has room, and is weighed by its place in the table of gains
    pub first_found : {r : Bool} (here : ℕ) (g : ℤ) (lead : Lead) (c : Best) → r ≡ room_for (get_or loads (b - 1) 0) weight (get_or ceilings (b - 1) 0) → r ≡ true → Shut may row j
        → here ≡ 16 * x + (b - 1) + 1 → g ≡ gain_at gains x b → Leads lead (considered true (vertex_at here) (block_at here) g c) → Leads lead (best_in_row (gain_in gains) may (x + 1) k c)
    unfolding considered
    first_found here g lead c q t s eh eg w =
        let ev : vertex_at here ≡ x + 1 = omega (arith, block-other) in
        let eb : block_at here ≡ b = omega (arith, block-other) in
        let eg : g ≡ gain_at gains x b = eg in
        let e : better c (x + 1) b (gain_at gains x b) ≡ best_in_row (gain_in gains) may (x + 1) k c =
        ap (λ (d : ℕ). better c (x + 1) d (gain_at gains x d)) is ∙ sym (first-at (gain_at gains x) may (x + 1) c row j inside s (goes_by q ∙ t)) ∙ row-best c in
        subst (Leads lead) (cc) w

    -- it gains no more than the best before it, and so do those behind it
    pub first-low : {top g : ℤ} {r : Bool} (lead : Lead) (c : Best) → top ≡ lead.top → g ≡ gain_at gains x b → mag (gain_at gains x b) < 2 ^ 31 → r ≡ lt_z top g → r ≡ false → Shut may row j
        → Leads lead c → Leads lead (best_in_row (gain_in gains) may (x + 1) k c)
    first-low lead c et eg fits q f s w = subst (Leads lead) (sym (sym (row-best c) ∙ first-rests (gain_at gains x) may (x + 1) c row j s (λ i l u. rests i (low i l u)))) w
      where
        lower : lt_z lead.top (gain_at gains x b) ≡ false
        lower = ap₂ lt_z (sym et) (sym eg) ∙ sym q ∙ f

        low : (i : ℕ) → j ≤ i → i < length row → lt_z lead.top (gain_at gains x (get_or row i 0)) ≡ false
        low i l u = go (ℕ_discrete i j)
          where
            go : Dec (i ≡ j) → lt_z lead.top (gain_at gains x (get_or row i 0)) ≡ false
            go (yes d) = ap (λ (n : ℕ). lt_z lead.top (gain_at gains x n)) (ap (λ (n : ℕ). get_or row n 0) d ∙ sym is) ∙ lower
            go (no d) = no_less lead.top (gain_at gains x b) (gain_at gains x (get_or row i 0)) lower
                (ap (λ (n : ℕ). lt_z (gain_at gains x n) (gain_at gains x (get_or row i 0))) is ∙ (sorted-get (gain_at gains x) row j i (ranked-sorted (gain_at gains x) own k) (omega arith) u).0)

        rests : (i : ℕ) → lt_z lead.top (gain_at gains x (get_or row i 0)) ≡ false → better c (x + 1) (get_or row i 0) (gain_at gains x (get_or row i 0)) ≡ c
        rests i e =
            let d = stays lead.at (x + 1) (get_or row i 0) lead.top (gain_at gains x (get_or row i 0)) (λ z. absurd (true≢false (sym (w.below z (gain_at gains x b) fits) ∙ lower))) e in
            ap (λ a. better a (x + 1) (get_or row i 0) (gain_at gains x (get_or row i 0))) (sym w.same) ∙ sym d ∙ w.same

  pub first-missing : (j : ℕ) (c : Best) → k ≤ j + 1 → Shut may row j → c ≡ best_in_row (gain_in gains) may (x + 1) k c
  first-missing j c u s = sym (sym (row-best c) ∙ first-rests (gain_at gains x) may (x + 1) c row j s (λ i l q. absurd (omega (arith, ranked-length (gain_at gains x) own k h.from h.to))))
