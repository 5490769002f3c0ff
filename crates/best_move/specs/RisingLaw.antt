-- What a failed test of a vertex's gains says: none of its pairs is better than the best one so far. Rests on Rising and OpenLaw.
-- Assumes nothing.
use Rattle.std.specs.Prelude.{◌≡◌, refl, Bool, true, false, not, ◌&&◌, ◌||◌, List, ℕ, zero, suc, ◌+◌, ◌-◌, ◌*◌, ◌/◌, ◌%◌, ◌^◌, ◌≤◌, ◌<◌, leb, eqb, length, get_or, set, ℤ, pos, negsuc, ◌+ℤ◌}
use Rattle.std.proofs.Common.{sym, ap, ap₂, ◌∙◌, subst, true≢false, ⊎_elim, arith, length-set, get_or-set_same, get_or-set_other, SFits, of_z, to_z, ltb-true, leb-true, leb-false, le-leb, eqb-true}
use Rattle.std.proofs.Math.Decide.{dec_lt, ℕ_discrete}
use Rattle.std.specs.Int.Signed.{mag, lt_z, le_z}
use Rattle.std.specs.Int.{w32, w64}
use Rattle.laws.specs.Bit.{bit}
use Rattle.laws.specs.Choice.{and_left, and_right, or-none}
use Rattle.laws.specs.Integer.{up, dn, add_is, pos-is, abs_is, lt_test, lt-test-no, le-test-no, one-zero, read32}
use Rattle.incidence.specs.On.{on, on-is}
use Rattle.incidence.specs.Word.{NextBit}
use Rattle.best_move.specs.declared.open.Lead.{Lead}
use Rattle.model.specs.Search.{Best}
use Rattle.best_move.specs.Open.{gain_in, may_go, open_in, best_in_row, best_to, Leads}
use Rattle.best_move.specs.OpenLaw.{read64, Topped, lead-rests, candidate-more}
use Rattle.best_move.specs.Peak.{lesser, not-below, not_itself}
use Rattle.best_move.specs.Rising.{RoomFor, Rooms, Least, NotBetter, Passed}

-- ---- rooms

pub rooms-none : (loads ceilings rooms : List ℕ) → length rooms ≡ 16 → Rooms loads ceilings 0 rooms
rooms-none loads ceilings rooms h = record { len = h; fits = λ b l. absurd (omega arith) }

pub rooms-more : (loads ceilings : List ℕ) (b : ℕ) (rooms : List ℕ) (r : ℕ) → b < 16 → Rooms loads ceilings b rooms → RoomFor (get_or loads b 0) (get_or ceilings b 0) r → Rooms loads ceilings (b + 1) (set rooms b r)
rooms-more loads ceilings b rooms r l h f = record { len = length-set rooms b r ∙ h.len; fits = λ c u. go c u (ℕ_discrete c b) }
  where
    go : (c : ℕ) → c < b + 1 → Dec (c ≡ b) → RoomFor (get_or loads c 0) (get_or ceilings c 0) (get_or (set rooms b r) c 0)
    go c u (yes q) = rw (q, get_or-set_same rooms b r 0 (omega (arith, h.len))) f
    go c u (no q) = rw (get_or-set_other rooms b c r 0 q) (h.fits c (omega arith))

-- ---- the lowest gain that is better, by the parts of ℤ

least_by : (top low : ℤ) → up low + dn top ≤ up top + dn low + 1 → Least top low
least_by top low h gain f l = go (lt_z top gain) refl
  where
    go : (t : Bool) → lt_z top gain ≡ t → lt_z top gain ≡ false
    go true e = absurd (omega (arith, lt_test top gain e, le-test-no low gain l))
    go false e = e

-- no gain of 32 bits is below the lowest of them
pub least-all : (top : ℤ) → Least top (negsuc 2147483647)
least-all top (pos a) f l = absurd (true≢false l)
least-all top (negsuc a) f l = absurd (omega (arith, f, leb-false a 2147483647 l))

pub least-most : (top : ℤ) → lt_z (pos 2147483646) top ≡ true → Least top (pos 2147483647)
least-most top t = least_by top (pos 2147483647) (omega (arith, lt_test (pos 2147483646) top t, pos-is 2147483646, pos-is 2147483647))

least-next : (top low : ℤ) → low ≡ top +ℤ pos 1 → Least top low
least-next top low e = rw e (least_by top (top +ℤ pos 1) (omega (arith, add_is top (pos 1), pos-is 1)))

lowest-is : (up (negsuc 2147483647) ≡ 0) × (dn (negsuc 2147483647) ≡ 2147483648)
unfolding up dn
lowest-is = (refl, refl)

next_small : (top : ℤ) → lt_z top (negsuc 2147483647) ≡ false → lt_z (pos 2147483646) top ≡ false → mag (top +ℤ pos 1) < 2 ^ 31
next_small top lo hi =
    let a = lt-test-no top (negsuc 2147483647) lo in
    let b = lt-test-no (pos 2147483646) top hi in
    ⊎_elim (λ e. omega (arith, e, a, b, lowest-is, pos-is 2147483646, pos-is 1, add_is top (pos 1), abs_is (top +ℤ pos 1)))
    (λ e. omega (arith, e, a, b, lowest-is, pos-is 2147483646, pos-is 1, add_is top (pos 1), abs_is (top +ℤ pos 1)))
    (one-zero (top +ℤ pos 1))

-- the same, with each number read back from its bits
module _ (top : ℤ) (f : mag top < 2 ^ 63) (lo : lt_z (to_z w64 (of_z w64 top)) (negsuc 2147483647) ≡ false) (hi : lt_z (pos 2147483646) (to_z w64 (of_z w64 top)) ≡ false) where
  small : mag (top +ℤ pos 1) < 2 ^ 31
  small = next_small top (sym (ap (λ (z : ℤ). lt_z z (negsuc 2147483647)) (read64 top f)) ∙ lo) (sym (ap (lt_z (pos 2147483646)) (read64 top f)) ∙ hi)

  sum-read : to_z w64 (of_z w64 (to_z w64 (of_z w64 top) +ℤ pos 1)) ≡ top +ℤ pos 1
  sum-read = ap (λ (z : ℤ). to_z w64 (of_z w64 (z +ℤ pos 1))) (read64 top f) ∙ read64 (top +ℤ pos 1) (omega (arith, small))

  pub next-fits64 : SFits w64 (to_z w64 (of_z w64 top) +ℤ pos 1)
  next-fits64 = subst (λ (z : ℤ). SFits w64 (z +ℤ pos 1)) (sym (read64 top f)) (record { sfits = omega (arith, small) })

  pub next-fits32 : SFits w32 (to_z w64 (of_z w64 (to_z w64 (of_z w64 top) +ℤ pos 1)))
  next-fits32 = subst (SFits w32) (sym sum-read) (record { sfits = small })

  pub next-least : Least top (to_z w32 (of_z w32 (to_z w64 (of_z w64 (to_z w64 (of_z w64 top) +ℤ pos 1)))))
  next-least = least-next top _ (ap (λ (z : ℤ). to_z w32 (of_z w32 z)) sum-read ∙ read32 (top +ℤ pos 1) small)

-- ---- one vertex

less-not : (low peak : ℤ) → lt_z peak low ≡ true → le_z low peak ≡ false
less-not (pos a) (pos b) t = go (leb a b) refl
  where
    go : (d : Bool) → leb a b ≡ d → leb a b ≡ false
    go true e = absurd (omega (arith, ltb-true b a t, leb-true a b e))
    go false e = e
less-not (pos a) (negsuc b) t = refl
less-not (negsuc a) (pos b) t = absurd (true≢false (sym t))
less-not (negsuc a) (negsuc b) t = go (leb b a) refl
  where
    go : (d : Bool) → leb b a ≡ d → leb b a ≡ false
    go true e = absurd (omega (arith, ltb-true a b t, leb-true b a e))
    go false e = e

-- the test of a block failed: the vertex may not go there, or what bounds its gain is no more than the best
not-better-stays : (gains : List ℤ) (loads ceilings rooms : List ℕ) (k row weight own b : ℕ) (top low : ℤ) → b < k → Rooms loads ceilings k rooms → Least top low → (s : NotBetter gains rooms row low weight own b)
    → may_go (get_or loads b 0) own weight (get_or ceilings b 0) (b + 1) ≡ true → lt_z top s.bound ≡ false
not-better-stays gains loads ceilings rooms k row weight own b top low l h least s may = least s.bound s.fits (go (le_z low s.bound) refl)
  where
    other : not (eqb own (b + 1)) ≡ true
    other = and_left (not (eqb own (b + 1))) (leb (get_or loads b 0 + weight) (get_or ceilings b 0)) may

    room : leb weight (get_or rooms b 0) ≡ true
    room = le-leb weight (get_or rooms b 0) (h.fits b l weight s.light (leb-true _ _ (and_right (not (eqb own (b + 1))) (leb (get_or loads b 0 + weight) (get_or ceilings b 0)) may)))

    go : (t : Bool) → le_z low s.bound ≡ t → le_z low s.bound ≡ false
    go true e = absurd (true≢false (sym (ap (λ (x : Bool). x && (leb weight (get_or rooms b 0) && not (eqb own (b + 1)))) e ∙ ap (λ (x : Bool). x && not (eqb own (b + 1))) room ∙ other) ∙ s.shut))
    go false e = e

-- a test as the code makes it, with the two gains read back from their bits
pub not-better-told : (gains : List ℤ) (rooms : List ℕ) (row : ℕ) (low : ℤ) (weight own b : ℕ) {r s : Bool} {l g : ℤ} → mag (get_or gains (row + b) (pos 0)) < 2 ^ 31 → weight < 2 ^ 32 → l ≡ low → g ≡ get_or gains (row + b) (pos 0)
    → r ≡ (le_z l g && s) → s ≡ (leb weight (get_or rooms b 0) && not (eqb own (b + 1))) → r ≡ false → NotBetter gains rooms row low weight own b
not-better-told gains rooms row low weight own b f w el eg er es e = record { bound = get_or gains (row + b) (pos 0); fits = f; under = not_itself (get_or gains (row + b) (pos 0)); light = w; shut = cc }

-- a number that no gain of the row passes is below `low`
pub not-better-peak : (gains : List ℤ) (rooms : List ℕ) (row : ℕ) (low peak : ℤ) (weight own b : ℕ) {l p : ℤ} → mag peak < 2 ^ 31 → weight < 2 ^ 32 → l ≡ low → p ≡ peak → lt_z p l ≡ true → lt_z peak (get_or gains (row + b) (pos 0)) ≡ false
    → NotBetter gains rooms row low weight own b
not-better-peak gains rooms row low peak weight own b f w el ep t u = record { bound = peak; fits = f; under = u; light = w; shut = ap (λ (x : Bool). x && (leb weight (get_or rooms b 0) && not (eqb own (b + 1)))) (less-not low peak (sym (ap₂ lt_z ep el) ∙ t)) }

-- the tests of four blocks as the code joins them
pub not-better-four : (gains : List ℤ) (rooms : List ℕ) (row : ℕ) (low : ℤ) (weight own b : ℕ) {r s t p₀ p₁ p₂ p₃ : Bool} → (p₀ ≡ false → NotBetter gains rooms row low weight own b) → (p₁ ≡ false → NotBetter gains rooms row low weight own (b + 1))
    → (p₂ ≡ false → NotBetter gains rooms row low weight own (b + 2)) → (p₃ ≡ false → NotBetter gains rooms row low weight own (b + 3)) → s ≡ (p₀ || p₁) → t ≡ (p₂ || p₃) → r ≡ (s || t) → r ≡ false
    → (j : ℕ) → b ≤ j → j < b + 4 → NotBetter gains rooms row low weight own j
not-better-four gains rooms row low weight own b {s = s} {t} {p₀} {p₁} {p₂} {p₃} h₀ h₁ h₂ h₃ es et er e j l u = go (j - b) (omega arith) (omega arith)
  where
    halves : (s ≡ false) × (t ≡ false)
    halves = or-none s t (sym er ∙ e)

    low-two : (p₀ ≡ false) × (p₁ ≡ false)
    low-two = or-none p₀ p₁ (sym es ∙ halves.0)

    high-two : (p₂ ≡ false) × (p₃ ≡ false)
    high-two = or-none p₂ p₃ (sym et ∙ halves.1)

    go : (d : ℕ) → d < 4 → j ≡ b + d → NotBetter gains rooms row low weight own j
    go zero k q = let z : j ≡ b = omega arith in rw z (h₀ low-two.0)
    go (suc zero) k q = rw q (h₁ low-two.1)
    go (suc (suc zero)) k q = rw q (h₂ high-two.0)
    go (suc (suc (suc zero))) k q = rw q (h₃ high-two.1)
    go (suc (suc (suc (suc d)))) k q = absurd (omega arith)

-- the tests of all sixteen
pub not-better-all : (gains : List ℤ) (rooms : List ℕ) (row : ℕ) (low : ℤ) (weight own : ℕ) {r s t p₀ p₁ p₂ p₃ : Bool} → (p₀ ≡ false → (j : ℕ) → 0 ≤ j → j < 4 → NotBetter gains rooms row low weight own j)
    → (p₁ ≡ false → (j : ℕ) → 4 ≤ j → j < 8 → NotBetter gains rooms row low weight own j) → (p₂ ≡ false → (j : ℕ) → 8 ≤ j → j < 12 → NotBetter gains rooms row low weight own j)
    → (p₃ ≡ false → (j : ℕ) → 12 ≤ j → j < 16 → NotBetter gains rooms row low weight own j) → s ≡ (p₀ || p₁) → t ≡ (p₂ || p₃) → r ≡ (s || t) → r ≡ false → (j : ℕ) → j < 16 → NotBetter gains rooms row low weight own j
not-better-all gains rooms row low weight own {s = s} {t} {p₀} {p₁} {p₂} {p₃} h₀ h₁ h₂ h₃ es et er e j u = go (dec_lt j 4) (dec_lt j 8) (dec_lt j 12)
  where
    halves : (s ≡ false) × (t ≡ false)
    halves = or-none s t (sym er ∙ e)

    low-two : (p₀ ≡ false) × (p₁ ≡ false)
    low-two = or-none p₀ p₁ (sym es ∙ halves.0)

    high-two : (p₂ ≡ false) × (p₃ ≡ false)
    high-two = or-none p₂ p₃ (sym et ∙ halves.1)

    go : Dec (j < 4) → Dec (j < 8) → Dec (j < 12) → NotBetter gains rooms row low weight own j
    go (yes a) _ _ = h₀ low-two.0 j (omega arith) a
    go (no a) (yes b) _ = h₁ low-two.1 j (omega arith) b
    go (no a) (no b) (yes d) = h₂ high-two.0 j (omega arith) d
    go (no a) (no b) (no d) = h₃ high-two.1 j (omega arith) u

-- ---- the vertices of one part

module _ (gains : List ℤ) (blocks weights rooms : List ℕ) (word first size k : ℕ) (low : ℤ) (small : size ≤ 64) (from : ℕ) where
  pub passed_none : (r : ℕ) → NextBit word from r → Passed gains blocks weights rooms word first size k low from r
  passed_none r h = record {
    start = h.low;
    high = h.high;
    found = λ l. h.found (omega arith);
    not-better = λ j l u s e. absurd (omega (arith, h.passed j l u));
  }

  -- none is left
  pub passed-end : (r : ℕ) → size ≤ r → Passed gains blocks weights rooms word first size k low from r → Passed gains blocks weights rooms word first size k low from 64
  passed-end r l h = record {
    start = omega (arith, h.start, h.high);
    high = omega arith;
    found = λ u. absurd (omega (arith, h.high));
    not-better = λ j l' u c e. h.not-better j l' (omega arith) c e;
  }

  pub passed-more : (j r : ℕ) → j < size → Passed gains blocks weights rooms word first size k low from j
      → ((b : ℕ) → b < k → NotBetter gains rooms (16 * (first + j)) low (get_or weights (first + j) 0) (get_or blocks (first + j) 0) b) → NextBit word (j + 1) r → Passed gains blocks weights rooms word first size k low from r
  passed-more j r l h s n = record {
    start = omega (arith, h.start, n.low);
    high = n.high;
    found = λ u. n.found (omega arith);
    not-better = λ i a b c e. go i a b c e (ℕ_discrete i j) (dec_lt i j);
  }
    where
      go : (i : ℕ) → from ≤ i → i < r → i < size → bit word i ≡ 1 → Dec (i ≡ j) → Dec (i < j)
          → (b : ℕ) → b < k → NotBetter gains rooms (16 * (first + i)) low (get_or weights (first + i) 0) (get_or blocks (first + i) 0) b
      go i a b c e (yes q) d = rw q s
      go i a b c e (no q) (yes d) = h.not-better i a d c e
      go i a b c e (no q) (no d) = absurd (omega (arith, n.passed i (omega arith) b))

-- bit j of word c is the candidate at place 64 * c + j
pub part-bit : (candidates : List ℕ) (c j : ℕ) → j < 64 → on candidates 0 (64 * c + j) ≡ bit (get_or candidates c 0) j
part-bit candidates c j l =
    let at_c : 16 * 0 + (64 * c + j) / 64 ≡ c = omega arith in
    let at_j : (64 * c + j) % 64 ≡ j = omega arith in
    on-is candidates 0 (64 * c + j) ∙ ap (λ (x : ℕ). bit (get_or candidates x 0) ((64 * c + j) % 64)) at_c ∙ ap (bit (get_or candidates c 0)) at_j

module _ (candidates blocks weights loads ceilings rooms : List ℕ) (gains : List ℤ) (c size k : ℕ) where
  -- the best pair of the vertices before place i
  abbrev best_before : ℕ → Best
  best_before i = best_to (open_in candidates blocks weights loads ceilings) (gain_in gains) k i

  -- the vertices of the part before bit `from` have been searched
  pub record Searched (lead₀ lead : Lead) (from : ℕ) : Type 0 where
    pub high : from ≤ 65
    pub leads : Leads lead₀ (best_before (64 * c)) → Leads lead (best_before (lesser (64 * c + from) (64 * c + size)))

  -- and bit j is a candidate or past the part
  pub record Among (lead₀ lead : Lead) (j : ℕ) : Type 0 where
    pub high : j ≤ 64
    pub found : j < size → on candidates 0 (64 * c + j) ≡ 1
    pub leads : Leads lead₀ (best_before (64 * c)) → Leads lead (best_before (lesser (64 * c + j) (64 * c + size)))

  module _ (small : size ≤ 64) (h : Rooms loads ceilings k rooms) where
    -- the candidates that were passed over have no better pair
    passed-leads : (low : ℤ) (from r : ℕ) (lead : Lead) → from ≤ size → Least lead.top low → Passed gains blocks weights rooms (get_or candidates c 0) (64 * c) size k low from r
        → Leads lead (best_before (64 * c + from)) → Leads lead (best_before (lesser (64 * c + r) (64 * c + size)))
    passed-leads low from r lead le least p g =
        lead-rests (open_in candidates blocks weights loads ceilings) (gain_in gains) k (64 * c + from) (lesser (64 * c + r) (64 * c + size)) lead (omega (arith, p.start)) topped g
      where
        topped : (v b : ℕ) → 64 * c + from < v → v ≤ lesser (64 * c + r) (64 * c + size) → 1 ≤ b → b ≤ k → open_in candidates blocks weights loads ceilings v b ≡ true → Topped lead (gain_in gains v b)
        topped v b lv uv lb ub o =
            let j = v - 1 - 64 * c in
            let e : 64 * c + j ≡ v - 1 = omega arith in
            let d : b - 1 + 1 ≡ b = omega arith in
            let may = and_right (eqb (on candidates 0 (v - 1)) 1) (may_go (get_or loads (b - 1) 0) (get_or blocks (v - 1) 0) (get_or weights (v - 1) 0) (get_or ceilings (b - 1) 0) b) o in
            let candidate : on candidates 0 (v - 1) ≡ 1 = eqb-true _ _ (and_left (eqb (on candidates 0 (v - 1)) 1) (may_go (get_or loads (b - 1) 0) (get_or blocks (v - 1) 0) (get_or weights (v - 1) 0) (get_or ceilings (b - 1) 0) b) o) in
            let set-bit : bit (get_or candidates c 0) j ≡ 1 = sym (part-bit candidates c j (omega arith)) ∙ ap (on candidates 0) e ∙ candidate in
            let not-better = subst (λ (x : ℕ). NotBetter gains rooms (16 * x) low (get_or weights x 0) (get_or blocks x 0) (b - 1)) e (p.not-better j (omega arith) (omega arith) (omega arith) set-bit (b - 1) (omega arith)) in
            let stays = not-better-stays gains loads ceilings rooms k (16 * (v - 1)) (get_or weights (v - 1) 0) (get_or blocks (v - 1) 0) (b - 1) lead.top low (omega arith) h least not-better
            (subst (λ (x : ℕ). may_go (get_or loads (b - 1) 0) (get_or blocks (v - 1) 0) (get_or weights (v - 1) 0) (get_or ceilings (b - 1) 0) x ≡ true) (sym d) may) in (
              λ z. absurd (true≢false (sym (g.below z not-better.bound not-better.fits) ∙ stays)),
              not-below lead.top not-better.bound (gain_in gains v b) stays not-better.under,
            )

    -- `top` and `low'` are the two gains read back from their bits
    pub among : (lead₀ lead : Lead) (from r : ℕ) {top low low' : ℤ} → top ≡ lead.top → low' ≡ low → Least top low → from ≤ size → Searched lead₀ lead from
        → Passed gains blocks weights rooms (get_or candidates c 0) (64 * c) size k low' from r → Among lead₀ lead r
    among lead₀ lead from r {low' = low'} et el least l s p = record {
      high = p.high;
      found = λ u. part-bit candidates c r (omega arith) ∙ p.found u;
      leads = λ q. let e : lesser (64 * c + from) (64 * c + size) ≡ 64 * c + from = omega arith in
          passed-leads low' from r lead (omega arith) (rw (el, ← et) least) p (subst (λ (i : ℕ). Leads lead (best_before i)) e (s.leads q));
    }

  pub searched-none : (lead : Lead) → Searched lead lead 0
  searched-none lead = let e : lesser (64 * c + 0) (64 * c + size) ≡ 64 * c = omega arith in record { high = omega arith; leads = λ q. rw e q }

  -- the candidate found has been weighed
  pub searched-more : (lead₀ old lead : Lead) (j : ℕ) → j < size → Among lead₀ old j
      → ((b : Best) → Leads old b → Leads lead (best_in_row (gain_in gains) (λ b. may_go (get_or loads (b - 1) 0) (get_or blocks (64 * c + j) 0) (get_or weights (64 * c + j) 0) (get_or ceilings (b - 1) 0) b) (64 * c + j + 1) k b))
      → Searched lead₀ lead (j + 1)
  searched-more lead₀ old lead j l a w =
      let e : lesser (64 * c + j) (64 * c + size) ≡ 64 * c + j = omega arith in
      let d : 64 * c + j + 1 ≡ lesser (64 * c + (j + 1)) (64 * c + size) = omega arith in
      record {
        high = omega (arith, a.high);
        leads = λ q. subst (λ (i : ℕ). Leads lead (best_before i)) d
            (subst (Leads lead) (candidate-more candidates blocks weights loads ceilings (gain_in gains) size k (64 * c + j) (a.found l)) (w _ (subst (λ (i : ℕ). Leads old (best_before i)) e (a.leads q))));
      }

  -- no candidate was found
  pub searched-past : (lead₀ lead : Lead) (j : ℕ) → size ≤ j → Among lead₀ lead j → Searched lead₀ lead (j + 1)
  searched-past lead₀ lead j l a =
      let e : lesser (64 * c + j) (64 * c + size) ≡ lesser (64 * c + (j + 1)) (64 * c + size) = omega arith in
      record { high = omega (arith, a.high); leads = λ q. subst (λ (i : ℕ). Leads lead (best_before i)) e (a.leads q) }

  pub searched-ends : (lead₀ lead : Lead) (from : ℕ) → size ≤ from → Searched lead₀ lead from → Leads lead₀ (best_before (64 * c)) → Leads lead (best_before (64 * c + size))
  searched-ends lead₀ lead from l s q =
      let e : lesser (64 * c + from) (64 * c + size) ≡ 64 * c + size = omega arith in
      subst (λ (i : ℕ). Leads lead (best_before i)) e (s.leads q)
