-- Which prefix a walk keeps, in the code's variables: the worth of a prefix by its two numbers, the heaviest block by the blocks' weights in the
-- tables, and that this is model's. Rests on operations's Tables. Assumes nothing.
use Rattle.std.specs.Prelude.{ℕ, ◌+◌, ◌-◌, max, ◌≡◌, Bool, true, false, ◌&&◌, ◌||◌, cond, List, eqb, ltb, get_or, Some}
use Rattle.std.specs.Ordering.{partial_lt, partial_ordering_then, nat_cmp, is_some_and, is_lt}
use Rattle.std.proofs.Common.{arith, refl, Less, Equal, Greater, sym, ap, ◌∙◌, eq-eqb, ne_eqb, le-ltb}
use Rattle.std.proofs.Math.Bool.{or-false}
use Rattle.laws.specs.Sum.{fold_to, fold_to-zero, fold_to-step, fold_to-ext}
use Rattle.model.specs.Catalogue.{Hypergraph}
use Rattle.model.specs.Measure.{Contraction, block_weight, heaviest}
use Rattle.model.specs.Search.{Worth, is_kept}
use Rattle.operations.specs.Tables.{Tables, Sound}

-- a prefix's worth, of its metric and its heaviest block's weight
abbrev pub worth : ℕ → ℕ → Worth
worth total heaviest = record { total = total; heaviest = heaviest }

-- the highest of the first k loads
unfoldable pub heaviest_in : List ℕ → ℕ → ℕ
heaviest_in loads k = fold_to k (λ most b. max most (get_or loads (b - 1) 0)) 0

-- ---- the loop over the blocks
pub heaviest-none : (loads : List ℕ) → 0 ≡ heaviest_in loads 0
unfolding heaviest_in
heaviest-none loads = sym (fold_to-zero (λ most b. max most (get_or loads (b - 1) 0)) 0)

pub heaviest-more : (loads : List ℕ) (j most load r : ℕ) → most ≡ heaviest_in loads j → load ≡ get_or loads j 0 → r ≡ max most load → r ≡ heaviest_in loads (j + 1)
unfolding heaviest_in
heaviest-more loads j most load r e l q =
    let i : j + 1 - 1 ≡ j = omega arith in
    q ∙ ap (λ (x : ℕ). max x load) e ∙ ap (max (heaviest_in loads j)) (l ∙ ap (λ (i : ℕ). get_or loads i 0) (sym i)) ∙ sym (fold_to-step j (λ most b. max most (get_or loads (b - 1) 0)) 0)

-- ---- the tables' heaviest block is model's
pub heaviest-is : {h : Hypergraph} {cs : List Contraction} {block : ℕ → ℕ} {T : Tables} → Sound h cs block T → heaviest_in T.loads T.k ≡ heaviest h cs block
unfolding heaviest_in heaviest
heaviest-is {h} {cs} {block} {T} s =
    ap (λ (n : ℕ). fold_to n (λ most b. max most (get_or T.loads (b - 1) 0)) 0) s.follows.says.all_blocks
    ∙ fold_to-ext h.blocks (λ most b. max most (get_or T.loads (b - 1) 0)) (λ most b. max most (block_weight h cs block b)) 0 (λ most b l u.
    let e : b - 1 + 1 ≡ b = omega arith in
    ap (max most) (s.bears (b - 1) (omega (arith, s.follows.says.all_blocks)) ∙ ap (block_weight h cs block) e))

-- ---- the order, by the comparison that the code makes
before : (p q r s : Bool) → is_some_and is_lt (partial_ordering_then (Some (cond p Less (cond q Equal Greater))) (Some (cond r Less (cond s Equal Greater)))) ≡ (p || (q && r))
before true q r s = refl
before false true true s = refl
before false true false true = refl
before false true false false = refl
before false false r s = refl

pub order-is : (total heavy low most : ℕ) → partial_lt {X = ℕ × ℕ} (λ x y. partial_ordering_then (Some (nat_cmp x.0 y.0)) (Some (nat_cmp x.1 y.1))) (total, heavy) (low, most) ≡ is_kept (worth total heavy) (worth low most)
unfolding is_kept
order-is total heavy low most = before (ltb total low) (eqb total low) (ltb heavy most) (eqb heavy most)

-- ---- the order, by one test for each number
pub tie-is : (total heavy low most : ℕ) → total ≡ low → ltb heavy most ≡ is_kept (worth total heavy) (worth low most)
unfolding is_kept
tie-is total heavy low most e = sym (
    ap (λ (t : Bool). t || (eqb total low && ltb heavy most)) (le-ltb total low (omega arith)) ∙ ap (λ (t : Bool). t && ltb heavy most) (eq-eqb total low e))

pub apart-is : (total heavy low most : ℕ) → (total ≡ low → ⊥) → ltb total low ≡ is_kept (worth total heavy) (worth low most)
unfolding is_kept
apart-is total heavy low most n = sym (ap (λ (t : Bool). ltb total low || (t && ltb heavy most)) (ne_eqb total low n) ∙ or-false (ltb total low))

-- what is kept, by the test's answer
pub choice-new : {X : Type 0} {x : X} (y : X) {q r : Bool} → r ≡ q → r ≡ true → x ≡ cond q x y
choice-new {x = x} y e f = ap (λ (b : Bool). cond b x y) (sym f ∙ e)

pub choice-old : {X : Type 0} (x : X) {y : X} {q r : Bool} → r ≡ q → r ≡ false → y ≡ cond q x y
choice-old x {y = y} e f = ap (λ (b : Bool). cond b x y) (sym f ∙ e)
